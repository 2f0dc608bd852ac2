-- A text is one document at most, and has one first fault at most.
use Rattle.std.proofs.Common.{◌≡◌, ℕ, List, [], ◌∷◌, ◌++◌, map, sym, ap, subst, ◌∙◌, inl, inr, append-nil}
use Rattle.std.specs.Prelude.{Option, Some, None}
use Rattle.cd_meaning.specs.declared.document.Document.{Document}
use Rattle.cd_lex.specs.declared.token.Kind.{Kind}
use Rattle.cd_lex.specs.Tokens.{Piece, IsCut, kinds, length_of}
use Rattle.cd_lex.proofs.CutLaws.{cut_unique, end_is_stuck}
use Rattle.cd_syntax.specs.declared.cause.Cause.{Cause}
use Rattle.cd_syntax.specs.declared.item.Item.{Item}
use Rattle.cd_syntax.specs.declared.known.Known.{Known}
use Rattle.cd_syntax.specs.declared.refusal.Refusal.{Refusal}
use Rattle.cd_syntax.specs.Fault.{Next, IsFront, IsFault}
use Rattle.cd_syntax.specs.Grammar.{IsWhole, IsDocument, IsRead, IsSame, nesting}
use Rattle.cd_syntax.specs.Items.{item_of}
use Rattle.cd_grammar.specs.Machine.{State, after, start}
use Rattle.cd_syntax.specs.Refusal.{refusal_at, IsFaultyBehind, IsFaulty}
use Rattle.cd_syntax.proofs.Cuts.{next_unique, cuts_compare}
use Rattle.cd_syntax.proofs.NoFault.{not_past}
use Rattle.cd_syntax.proofs.FaultsOfTokens.{next_item, whole_to, front_to, cause_to}
use Rattle.cd_grammar.proofs.OneFault.{one_cause}
use Rattle.cd_grammar.proofs.Takes.{takes}

-- ---- documents

-- what is known in a state
abbrev known_of : Known → Option State → Known
known_of other None = other
known_of other (Some state) = state.0

known_same : (a b : Known) (o : Option State) → o ≡ Some (a, []) → o ≡ Some (b, []) → a ≡ b
known_same a b o h k = ap (known_of a) (sym h ∙ k)

-- the tokens of a document make one thing known
of_tokens : (tokens : List Kind) (x y : Known) → IsWhole tokens x → IsWhole tokens y → x ≡ y
of_tokens tokens x y first second =
    let items = map item_of tokens ++ Item.End ∷ [] in
    known_same x y (after nesting start items) (takes items x (whole_to tokens x first)) (takes items y (whole_to tokens y second))

pub one_known : (bytes : List ℕ) (x y : Known) → IsDocument bytes x → IsDocument bytes y → x ≡ y
one_known bytes x y (p, cut, whole) (q, cut', whole') =
    let pieces = (cut_unique bytes [] [] p q cut cut' end_is_stuck end_is_stuck).0 in
    of_tokens (kinds q) x y (subst (λ (ps : List Piece). IsWhole (kinds ps) x) pieces whole) whole'

pub one_reading : (bytes : List ℕ) (a b : Document) → IsRead bytes a → IsRead bytes b → IsSame a b
one_reading bytes a b (x, is, of) (y, is', of') =
    let same = one_known bytes x y is is' in
    record {
      axioms = of.axioms ∙ ap (λ (k : Known). k.axioms) same ∙ sym of'.axioms;
      classes = of.classes ∙ ap (λ (k : Known). k.classes) same ∙ sym of'.classes;
      roles = of.roles ∙ ap (λ (k : Known). k.roles) same ∙ sym of'.roles;
    }

-- ---- faults

-- a fault has one cause
cause_same : (front : List Kind) (next : Next) (c d : Cause) → IsFault front next c → IsFault front next d → c ≡ d
cause_same front next c d f g =
    one_cause (map item_of front) (next_item next) c d (front_to nesting front f.before) (cause_to front next c f.cause_is) (cause_to front next d g.cause_is)

-- behind the same pieces stands one fault
same_place : (bytes : List ℕ) (r s : Refusal) (p : List Piece) (rest : List ℕ) (next next' : Next) (c d : Cause) → IsFaultyBehind bytes r p rest next c
    → IsFaultyBehind bytes s p rest next' d → r ≡ s
same_place bytes r s p rest next next' c d f g =
    let stands = next_unique rest next next' f.next_is g.next_is in
    let cause = cause_same (kinds p) next c d f.fault (subst (λ (n : Next). IsFault (kinds p) n d) (sym stands) g.fault) in
    f.told ∙ ap (λ (x : Cause). refusal_at x (length_of p)) cause ∙ sym g.told

-- of two faults none stands behind the other
not_behind : (bytes : List ℕ) (r s : Refusal) (p q later : List Piece) (rest rest' : List ℕ) (next next' : Next) (c d : Cause) → IsFaultyBehind bytes r p rest next c
    → IsFaultyBehind bytes s q rest' next' d → q ≡ p ++ later → IsCut rest later rest' → r ≡ s
not_behind bytes r s p q later rest rest' next next' c d f g is cut =
    let front = subst (λ (ps : List Piece). IsFront nesting (kinds ps)) is g.fault.before in
    let none = not_past p later rest rest' next f.next_is f.fault.none cut front in
    let pieces : q ≡ p = is ∙ ap (λ (ps : List Piece). p ++ ps) none ∙ append-nil p in
    let same : rest ≡ rest' = subst (λ (ps : List Piece). IsCut rest ps rest') none cut in
    same_place bytes r s p rest next next' c d f
    (subst (λ (ps : List Piece). IsFaultyBehind bytes s ps rest next' d) pieces
    (subst (λ (xs : List ℕ). IsFaultyBehind bytes s q xs next' d) (sym same) g))

pub one_refusal : (bytes : List ℕ) (r s : Refusal) → IsFaulty bytes r → IsFaulty bytes s → r ≡ s
one_refusal bytes r s (p, rest, next, c, f) (q, rest', next', d, g) =
    elim (cuts_compare bytes rest rest' p q f.cut g.cut) [
      | inl (later, is, cut) ↦ not_behind bytes r s p q later rest rest' next next' c d f g is cut
      | inr (later, is, cut) ↦ sym (not_behind bytes s r q p later rest' rest next' next d c g f is cut)
    ]
