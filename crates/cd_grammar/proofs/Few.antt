-- No more becomes known than items were taken, and no more of these than bytes were read.
use Rattle.std.proofs.Common.{◌≡◌, ℕ, ◌+◌, ◌≤◌, List, [], ◌∷◌, length, refl, ap, arith, length-append}
use Rattle.std.specs.Prelude.{Some, sum_by}
use Rattle.std.proofs.lemmas.List.Sums.{sum_by-cons, sum_by-append, sum_by_push}
use Rattle.cd_meaning.specs.declared.expression.Expr.TheVariants.{Name}
use Rattle.cd_meaning.specs.Nodes.{nodes_of, nodes_in, nodes}
use Rattle.cd_names.specs.Names.{number}
use Rattle.cd_lex.specs.declared.token.Token.{Token}
use Rattle.cd_lex.specs.Lexing.{IsLexing}
use Rattle.cd_lex.specs.Machine.{State}
use Rattle.cd_lex.specs.Tokens.{Piece, Blank, Comment, Lexeme, spelled, IsCut, placed, Ending, AtEnd, AtBad, HasItems}
use Rattle.cd_lex.proofs.CutLaws.{begins_shorter}
use Rattle.cd_syntax.specs.declared.item.Item.{Item}
use Rattle.cd_syntax.specs.declared.known.Known.{Known}
use Rattle.cd_syntax.specs.declared.operands.Made.{Made}
use Rattle.cd_grammar.specs.declared.symbol.Frame.{Frame}
use Rattle.cd_grammar.specs.declared.symbol.Symbol.{Symbol}
use Rattle.cd_grammar.specs.declared.symbol.Symbol.TheVariants.{Opening, Class, PrefixIri, Document, Inside}
use Rattle.cd_syntax.specs.declared.words.Form.{Form}
use Rattle.cd_syntax.specs.Grammar.{begun, nesting}
use Rattle.cd_grammar.specs.Machine.{bare, with_head, with_part, after, start}
use Rattle.cd_syntax.proofs.Added.{length_added}
use Rattle.cd_grammar.proofs.Kept.{kept, all_fit}
use Rattle.cd_grammar.proofs.Lexed.{lexed_cut}
use Rattle.cd_grammar.proofs.Moves.{waiting, replaced_waiting, IsBehind, Moves}
use Rattle.cd_meaning.specs.NodesTable.{nodes-Name}
use Rattle.cd_syntax.proofs.OperandNodes.{nodes_made}

-- behind n items so much is known at most
record IsFew (n : ℕ) (known : Known) (stack : List Symbol) : Type 0 where
  classes : length known.classes ≤ n + 2
  roles : length known.roles ≤ n
  axioms : nodes known.axioms + sum_by waiting stack ≤ n

behind_waits : (symbol : Symbol) (frame : Frame) → IsBehind nesting symbol frame → waiting symbol ≡ 1 + sum_by nodes_of frame.parts
behind_waits symbol frame IsBehind.none = refl
behind_waits symbol frame IsBehind.some = refl

few_kept : (n : ℕ) (known known' : Known) (item : Item) (stack stack' : List Symbol) → Unit {0} → IsFew n known stack
    → Moves nesting known item stack known' stack' → IsFew (n + 1) known' stack'
few_kept n known known' item stack stack' fits h (Moves.passes {symbol = symbol} {stack = rest} parts may) = record {
  classes = omega (arith, h.classes);
  roles = omega (arith, h.roles);
  axioms = omega (arith, h.axioms, sum_by-append waiting parts rest, sum_by-cons waiting symbol rest, replaced_waiting symbol parts may);
}
few_kept n known known' item stack stack' fits h (Moves.binds p i is) = record {
  classes = omega (arith, h.classes);
  roles = omega (arith, h.roles);
  axioms = omega (arith, h.axioms, sum_by-cons waiting (PrefixIri p) stack');
}
few_kept n known known' item stack stack' fits h (Moves.names i is) = record {
  classes = omega (arith, h.classes, length_added known.classes i);
  roles = omega (arith, h.roles);
  axioms = omega (arith, h.axioms, sum_by-cons waiting Class stack');
}
few_kept n known known' item stack stack' fits h (Moves.heads_class {symbol = symbol} {stack = rest} frame i behind is kind) = record {
  classes = omega (arith, h.classes, length_added known.classes i);
  roles = omega (arith, h.roles);
  axioms = omega (
    arith,
    h.axioms,
    sum_by-cons waiting symbol rest,
    sum_by-cons waiting (Inside (with_head frame (number known.classes i))) rest,
    behind_waits symbol frame behind,
  );
}
few_kept n known known' item stack stack' fits h (Moves.heads_role {symbol = symbol} {stack = rest} frame i behind is kind) = record {
  classes = omega (arith, h.classes);
  roles = omega (arith, h.roles, length_added known.roles i);
  axioms = omega (
    arith,
    h.axioms,
    sum_by-cons waiting symbol rest,
    sum_by-cons waiting (Inside (with_head frame (number known.roles i))) rest,
    behind_waits symbol frame behind,
  );
}
few_kept n known known' item stack stack' fits h (Moves.parts_class {symbol = symbol} {stack = rest} frame i behind is) =
    let part = Name (number known.classes i) in
    record {
      classes = omega (arith, h.classes, length_added known.classes i);
      roles = omega (arith, h.roles);
      axioms = omega (
        arith,
        h.axioms,
        sum_by-cons waiting symbol rest,
        sum_by-cons waiting (Inside (with_part frame part)) rest,
        sum_by_push nodes_of frame.parts part,
        nodes-Name (number known.classes i),
        behind_waits symbol frame behind,
      );
    }
few_kept n known known' item stack stack' fits h (Moves.deepens {symbol = symbol} {stack = rest} frame form depth behind) =
    let inner = Inside (bare (Form.Expr form) depth) in
    record {
      classes = omega (arith, h.classes);
      roles = omega (arith, h.roles);
      axioms = omega (
        arith,
        h.axioms,
        sum_by-cons waiting symbol rest,
        sum_by-cons waiting Opening (inner ∷ Inside frame ∷ rest),
        sum_by-cons waiting inner (Inside frame ∷ rest),
        sum_by-cons waiting (Inside frame) rest,
        behind_waits symbol frame behind,
      );
    }
few_kept n known known' item stack stack' fits h (Moves.ends_axiom {symbol = symbol} {stack = rest} frame a behind makes) = record {
  classes = omega (arith, h.classes);
  roles = omega (arith, h.roles);
  axioms = omega (
    arith,
    h.axioms,
    sum_by-cons waiting symbol rest,
    sum_by_push nodes_in known.axioms a,
    nodes_made frame.form frame.heads frame.parts (Some (Made.Axiom a)) makes,
    behind_waits symbol frame behind,
  );
}
few_kept n known known' item stack stack' fits h (Moves.ends_expression {symbol = symbol} {stack = rest} frame below e behind makes) = record {
  classes = omega (arith, h.classes);
  roles = omega (arith, h.roles);
  axioms = omega (
    arith,
    h.axioms,
    sum_by-cons waiting symbol (Inside below ∷ rest),
    sum_by-cons waiting (Inside below) rest,
    sum_by-cons waiting (Inside (with_part below e)) rest,
    sum_by_push nodes_of below.parts e,
    nodes_made frame.form frame.heads frame.parts (Some (Made.Expr e)) makes,
    behind_waits symbol frame behind,
  );
}

few_begun : IsFew 0 begun (Document ∷ [])
few_begun = record { classes = omega arith; roles = omega arith; axioms = omega arith }

-- each item brings a class, a role and a node at most, beside the two classes at the start
pub few : (items : List Item) (known : Known) (stack : List Symbol) → after nesting start items ≡ Some (known, stack)
    → (length known.classes ≤ length items + 2) × (length known.roles ≤ length items) × (nodes known.axioms ≤ length items)
few items known stack leads =
    let h = kept IsFew (λ (item : Item). Unit {0}) few_kept few_begun items known stack (all_fit items) leads in
    (h.classes, h.roles, omega (arith, h.axioms))

-- ---- tokens

few_placed : (bytes : List ℕ) (pieces : List Piece) (rest : List ℕ) (at : ℕ) → IsCut bytes pieces rest → length (placed at pieces) ≤ length bytes
few_placed bytes [] rest at cut = omega arith
few_placed bytes (Blank b ∷ more) rest at (behind, begins, cut) =
    omega (arith, begins_shorter bytes (Blank b) behind begins, few_placed behind more rest (at + 1) cut)
few_placed bytes (Comment c ∷ more) rest at (behind, begins, cut) =
    omega (arith, begins_shorter bytes (Comment c) behind begins, few_placed behind more rest (at + length (spelled (Comment c))) cut)
few_placed bytes (Lexeme kind token ∷ more) rest at (behind, begins, cut) =
    omega (arith, begins_shorter bytes (Lexeme kind token) behind begins, few_placed behind more rest (at + length token) cut)

-- a token is a byte or more
pub few_tokens : (bytes : List ℕ) (tokens : List Token) (ending : Ending) → HasItems bytes tokens ending → length tokens ≤ length bytes
few_tokens bytes tokens (AtEnd n) (pieces, cut, are, place) = omega (arith, ap length are, few_placed bytes pieces [] 0 cut)
few_tokens bytes tokens (AtBad n) (pieces, rest, cut, bad, are, place) = omega (arith, ap length are, few_placed bytes pieces rest 0 cut)

pub few_taken : (s : State) (fed : List ℕ) (taken : List Token) → IsLexing s fed taken → length taken ≤ length fed
few_taken s fed taken lexing =
    omega (
      arith,
      length-append taken s.tokens,
      ap length lexing.ended,
      few_placed fed lexing.pieces lexing.rest 0 (lexed_cut s fed taken lexing),
    )
