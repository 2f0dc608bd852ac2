-- What is known can be a document: its numbers are in range, and its names are distinct.
use Rattle.std.proofs.Common.{◌≡◌, ◌≢◌, ℕ, ◌<◌, ◌≤◌, Bool, true, false, ◌&&◌, cond, List, [], ◌∷◌, ◌++◌, length, refl, sym, subst, ◌∙◌, arith}
use Rattle.std.specs.Prelude.{Some, nat_lt, AllPairs}
use Rattle.std.specs.List.{AllByRecursion, list_all}
use Rattle.std.proofs.lemmas.Bool.{and_parts, and_from, false≢true, lt-ltb}
use Rattle.std.proofs.lemmas.List.Folds.{list_all-append}
use Rattle.cd_meaning.specs.declared.expression.Axiom.{Axiom}
use Rattle.cd_meaning.specs.declared.expression.Expr.{Expr}
use Rattle.cd_meaning.specs.declared.expression.Expr.TheVariants.{Name}
use Rattle.cd_meaning.specs.Iri.{thing, nothing}
use Rattle.cd_meaning.specs.Numbered.{is_in_range, has_numbers_below}
use Rattle.cd_names.specs.Names.{add_name, number}
use Rattle.cd_syntax.specs.declared.item.Item.{Item}
use Rattle.cd_syntax.specs.declared.known.Known.{Known}
use Rattle.cd_syntax.specs.declared.operands.Made.{Made}
use Rattle.cd_grammar.specs.declared.symbol.Frame.{Frame}
use Rattle.cd_grammar.specs.declared.symbol.Symbol.{Symbol}
use Rattle.cd_grammar.specs.declared.symbol.Symbol.TheVariants.{Document, Inside}
use Rattle.cd_syntax.specs.Grammar.{begun, with_class, with_role, with_axiom, nesting}
use Rattle.cd_grammar.specs.Machine.{with_head, with_part, after, start}
use Rattle.cd_syntax.specs.Operands.{has_class_head}
use Rattle.cd_syntax.specs.Bounds.{IsSound}
use Rattle.cd_syntax.proofs.Added.{added_length, number_within, distinct_added, reserved_added}
use Rattle.cd_grammar.proofs.Kept.{kept, all_fit}
use Rattle.cd_grammar.proofs.Moves.{is_operandless, replaced_operandless, IsBehind, Moves}
use Rattle.cd_meaning.specs.NodesTable.{below-Name}
use Rattle.cd_syntax.proofs.OperandNumbers.{HaveNumbersBelow, operands_stay, axioms_stay, made_below}

-- ---- what is wanted

-- the numbers of the operands that came are in range
abbrev IsInRange : ℕ → ℕ → Symbol → Type 0
IsInRange n m (Inside frame) = HaveNumbersBelow n m frame.form frame.heads frame.parts
IsInRange n m symbol = Unit {0}

abbrev AreInRange : ℕ → ℕ → List Symbol → Type 0
AreInRange n m stack = AllByRecursion (IsInRange n m) stack

in_range_more : (n m n' m' : ℕ) → n ≤ n' → m ≤ m' → (symbol : Symbol) → IsInRange n m symbol → IsInRange n' m' symbol
in_range_more n m n' m' classes roles (Inside frame) h = operands_stay n m n' m' classes roles frame.form frame.heads frame.parts h
in_range_more n m n' m' classes roles symbol h = tt

in_range_longer : (n m n' m' : ℕ) → n ≤ n' → m ≤ m' → (stack : List Symbol) → AreInRange n m stack → AreInRange n' m' stack
in_range_longer n m n' m' classes roles [] h = tt
in_range_longer n m n' m' classes roles (symbol ∷ stack) h = (in_range_more n m n' m' classes roles symbol h.0, in_range_longer n m n' m' classes roles stack h.1)

operandless_in_range : (n m : ℕ) (symbol : Symbol) → is_operandless symbol ≡ true → IsInRange n m symbol
operandless_in_range n m (Inside frame) h = absurd (false≢true h)
operandless_in_range n m symbol h = tt

replaced_in_range : (n m : ℕ) (parts stack : List Symbol) → list_all is_operandless parts ≡ true → AreInRange n m stack → AreInRange n m (parts ++ stack)
replaced_in_range n m [] stack h are = are
replaced_in_range n m (symbol ∷ parts) stack h are =
    let both = and_parts (is_operandless symbol) (list_all is_operandless parts) h in
    (operandless_in_range n m symbol both.0, replaced_in_range n m parts stack both.1 are)

behind_in_range : (n m : ℕ) (symbol : Symbol) (frame : Frame) → IsBehind nesting symbol frame → IsInRange n m symbol
    → HaveNumbersBelow n m frame.form frame.heads frame.parts
behind_in_range n m symbol frame IsBehind.none h = (refl, refl)
behind_in_range n m symbol frame IsBehind.some h = h

pushed_all : {X : Type 0} (p : X → Bool) (xs : List X) (y : X) → list_all p xs ≡ true → p y ≡ true → list_all p (xs ++ y ∷ []) ≡ true
pushed_all p xs y h passes = list_all-append p xs (y ∷ []) ∙ and_from (list_all p xs) (p y && true) h (and_from (p y) true passes refl)

-- a head or a part in range
head_in_range : (n m : ℕ) (frame : Frame) (k : ℕ) (b : Bool) → HaveNumbersBelow n m frame.form frame.heads frame.parts → has_class_head frame.form ≡ b
    → k < cond b n m → IsInRange n m (Inside (with_head frame k))
head_in_range n m frame k b h kind less = (
  pushed_all (λ j. nat_lt j (cond (has_class_head frame.form) n m)) frame.heads k h.0
      (subst (λ (t : Bool). nat_lt k (cond t n m) ≡ true) (sym kind) (lt-ltb k (cond b n m) less)),
  h.1,
)

part_in_range : (n m : ℕ) (frame : Frame) (e : Expr) → HaveNumbersBelow n m frame.form frame.heads frame.parts → is_in_range n m e ≡ true
    → IsInRange n m (Inside (with_part frame e))
part_in_range n m frame e h below = (h.0, pushed_all (is_in_range n m) frame.parts e h.1 below)

-- ---- what is known

class_sound : (known : Known) (i : List ℕ) → IsSound known → IsSound (with_class known i)
class_sound known i h = record {
  numbered =
      axioms_stay (length known.classes) (length known.roles) (length (add_name known.classes i)) (length known.roles)
      (added_length known.classes i) (omega arith) known.axioms h.numbered;
  reserved = reserved_added known.classes i h.reserved;
  distinct_classes = distinct_added known.classes i h.distinct_classes;
  distinct_roles = h.distinct_roles;
}

role_sound : (known : Known) (i : List ℕ) → IsSound known → IsSound (with_role known i)
role_sound known i h = record {
  numbered =
      axioms_stay (length known.classes) (length known.roles) (length known.classes) (length (add_name known.roles i))
      (omega arith) (added_length known.roles i) known.axioms h.numbered;
  reserved = h.reserved;
  distinct_classes = h.distinct_classes;
  distinct_roles = distinct_added known.roles i h.distinct_roles;
}

axiom_sound : (known : Known) (a : Axiom) → IsSound known → has_numbers_below (length known.classes) (length known.roles) a ≡ true → IsSound (with_axiom known a)
axiom_sound known a h below = record {
  numbered = pushed_all (has_numbers_below (length known.classes) (length known.roles)) known.axioms a h.numbered below;
  reserved = h.reserved;
  distinct_classes = h.distinct_classes;
  distinct_roles = h.distinct_roles;
}

none_alike : AllPairs {X = List ℕ} (λ a b. a ≢ b) []
none_alike i j d less within = absurd (omega arith)

begun_sound : IsSound begun
begun_sound = record {
  numbered = refl;
  reserved = refl;
  distinct_classes = distinct_added (thing ∷ []) nothing (distinct_added [] thing none_alike);
  distinct_roles = none_alike;
}

-- ---- what is known and wanted

record IsNumbered (known : Known) (stack : List Symbol) : Type 0 where
  sound : IsSound known
  wanted : AreInRange (length known.classes) (length known.roles) stack

-- a class is added, and these are wanted in place of the first
class_numbered : (known : Known) (i : List ℕ) (stack stack' : List Symbol) → IsSound known → AreInRange (length known.classes) (length known.roles) stack
    → (AreInRange (length (add_name known.classes i)) (length known.roles) stack → AreInRange (length (add_name known.classes i)) (length known.roles) stack')
    → IsNumbered (with_class known i) stack'
class_numbered known i stack stack' sound wanted then = record {
  sound = class_sound known i sound;
  wanted =
      then (in_range_longer (length known.classes) (length known.roles) (length (add_name known.classes i)) (length known.roles)
      (added_length known.classes i) (omega arith) stack wanted);
}

role_numbered : (known : Known) (i : List ℕ) (stack stack' : List Symbol) → IsSound known → AreInRange (length known.classes) (length known.roles) stack
    → (AreInRange (length known.classes) (length (add_name known.roles i)) stack → AreInRange (length known.classes) (length (add_name known.roles i)) stack')
    → IsNumbered (with_role known i) stack'
role_numbered known i stack stack' sound wanted then = record {
  sound = role_sound known i sound;
  wanted =
      then (in_range_longer (length known.classes) (length known.roles) (length known.classes) (length (add_name known.roles i))
      (omega arith) (added_length known.roles i) stack wanted);
}

numbered_kept : (n : ℕ) (known known' : Known) (item : Item) (stack stack' : List Symbol) → Unit {0} → IsNumbered known stack
    → Moves nesting known item stack known' stack' → IsNumbered known' stack'
numbered_kept n known known' item stack stack' fits h (Moves.passes {symbol = symbol} {stack = rest} parts may) = record {
  sound = h.sound;
  wanted = replaced_in_range (length known.classes) (length known.roles) parts rest (replaced_operandless symbol parts may) h.wanted.1;
}
numbered_kept n known known' item stack stack' fits h (Moves.binds p i is) = record {
  sound = record { numbered = h.sound.numbered; reserved = h.sound.reserved; distinct_classes = h.sound.distinct_classes; distinct_roles = h.sound.distinct_roles };
  wanted = h.wanted.1;
}
numbered_kept n known known' item stack stack' fits h (Moves.names {stack = rest} i is) = class_numbered known i rest rest h.sound h.wanted.1 (λ are. are)
numbered_kept n known known' item stack stack' fits h (Moves.heads_class {symbol = symbol} {stack = rest} frame i behind is kind) =
    let classes = length (add_name known.classes i) in
    class_numbered known i (symbol ∷ rest) (Inside (with_head frame (number known.classes i)) ∷ rest) h.sound h.wanted
    (λ are. (
      head_in_range classes (length known.roles) frame (number known.classes i) true
          (behind_in_range classes (length known.roles) symbol frame behind are.0) kind (number_within known.classes i),
      are.1,
    ))
numbered_kept n known known' item stack stack' fits h (Moves.heads_role {symbol = symbol} {stack = rest} frame i behind is kind) =
    let roles = length (add_name known.roles i) in
    role_numbered known i (symbol ∷ rest) (Inside (with_head frame (number known.roles i)) ∷ rest) h.sound h.wanted
    (λ are. (
      head_in_range (length known.classes) roles frame (number known.roles i) false
          (behind_in_range (length known.classes) roles symbol frame behind are.0) kind (number_within known.roles i),
      are.1,
    ))
numbered_kept n known known' item stack stack' fits h (Moves.parts_class {symbol = symbol} {stack = rest} frame i behind is) =
    let classes = length (add_name known.classes i) in
    let roles = length known.roles in
    let k = number known.classes i in
    class_numbered known i (symbol ∷ rest) (Inside (with_part frame (Name k)) ∷ rest) h.sound h.wanted
    (λ are. (
      part_in_range classes roles frame (Name k) (behind_in_range classes roles symbol frame behind are.0) (below-Name classes roles k ∙ lt-ltb k classes (number_within known.classes i)),
      are.1,
    ))
numbered_kept n known known' item stack stack' fits h (Moves.deepens {symbol = symbol} {stack = rest} frame form depth behind) = record {
  sound = h.sound;
  wanted = (tt, ((refl, refl), (behind_in_range (length known.classes) (length known.roles) symbol frame behind h.wanted.0, h.wanted.1)));
}
numbered_kept n known known' item stack stack' fits h (Moves.ends_axiom {symbol = symbol} {stack = rest} frame a behind makes) =
    let below = made_below (length known.classes) (length known.roles) frame.form frame.heads frame.parts (Some (Made.Axiom a)) makes
    (behind_in_range (length known.classes) (length known.roles) symbol frame behind h.wanted.0) in
    record { sound = axiom_sound known a h.sound below; wanted = h.wanted.1 }
numbered_kept n known known' item stack stack' fits h (Moves.ends_expression {symbol = symbol} {stack = rest} frame outer e behind makes) =
    let below = made_below (length known.classes) (length known.roles) frame.form frame.heads frame.parts (Some (Made.Expr e)) makes
    (behind_in_range (length known.classes) (length known.roles) symbol frame behind h.wanted.0) in
    record { sound = h.sound; wanted = (part_in_range (length known.classes) (length known.roles) outer e h.wanted.1.0 below, h.wanted.1.1) }

-- so it is behind all items that are taken
pub sound_known : (items : List Item) (known : Known) (stack : List Symbol) → after nesting start items ≡ Some (known, stack) → IsSound known
sound_known items known stack leads =
    let begun_numbered : IsNumbered begun (Document ∷ []) = record { sound = begun_sound; wanted = (tt, tt) } in
    let Kept : ℕ → Known → List Symbol → Type 0 = λ n. IsNumbered in
    (kept Kept (λ (item : Item). Unit {0}) numbered_kept begun_numbered items known stack (all_fit items) leads).sound
