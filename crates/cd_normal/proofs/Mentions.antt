-- The axioms that mention the atoms that came.
use Rattle.std.proofs.Common.{◌≡◌, ℕ, ◌+◌, ◌≤◌, Bool, true, false, List, [], ◌∷◌, ◌++◌, map, refl, inl, inr, arith}
use Rattle.std.proofs.lemmas.Bool.{cases_lt}
use Rattle.cd_normal.specs.declared.maker.Maker.{Maker}
use Rattle.cd_base.specs.Lists.{OneOf}
use Rattle.cd_meaning.specs.NormalAxioms.{NormalAxiom, n2, n3, n4, implies, triple}
use Rattle.cd_normal.specs.Made.{IsMentioned, Mentioned, some_rows, list_rows, rest_rows}
use Rattle.cd_normal.proofs.Tests.{member_left, member_right, member_map}

-- these axioms mention each of the atoms
abbrev pub Covers : List ℕ → List NormalAxiom → Type 0
Covers xs axs = (a : ℕ) → OneOf a xs → IsMentioned a axs

pub mention_left : (a : ℕ) (axs bs : List NormalAxiom) → IsMentioned a axs → IsMentioned a (axs ++ bs)
mention_left a axs bs (row, m, is) = (row, member_left row axs bs m, is)

pub mention_right : (a : ℕ) (axs bs : List NormalAxiom) → IsMentioned a bs → IsMentioned a (axs ++ bs)
mention_right a axs bs (row, m, is) = (row, member_right row axs bs m, is)

pub mentioned_both : (old mid new : Maker) (xs ys : List ℕ) (axs bs : List NormalAxiom) → Mentioned old mid xs axs → Covers xs bs → Mentioned mid new ys bs → Mentioned old new ys (bs ++ axs)
mentioned_both old mid new xs ys axs bs f covers g a low high = elim (cases_lt a mid.next) [
  | inl h ↦ elim (f a low h) [ inl m ↦ inr (mention_left a bs axs (covers a m)) | inr k ↦ inr (mention_right a bs axs k) ]
  | inr h ↦ elim (g a h high) [ inl m ↦ inl m | inr k ↦ inr (mention_left a bs axs k) ]
]

pub mentioned_then : (old mid new : Maker) (xs ys : List ℕ) (axs bs : List NormalAxiom) → Mentioned old mid xs axs → Mentioned mid new ys bs → Mentioned old new (xs ++ ys) (axs ++ bs)
mentioned_then old mid new xs ys axs bs f g a low high = elim (cases_lt a mid.next) [
  | inl h ↦ elim (f a low h) [ inl m ↦ inl (member_left a xs ys m) | inr k ↦ inr (mention_left a axs bs k) ]
  | inr h ↦ elim (g a h high) [ inl m ↦ inl (member_right a xs ys m) | inr k ↦ inr (mention_right a axs bs k) ]
]

pub mentioned_none : (old new : Maker) (xs : List ℕ) (axs : List NormalAxiom) → new.next ≤ old.next → Mentioned old new xs axs
mentioned_none old new xs axs h a low high = absurd (omega (arith, h, low, high))

pub mentioned_one : (old new : Maker) (x : ℕ) (axs : List NormalAxiom) → x ≡ old.next → new.next ≡ old.next + 1 → Mentioned old new (x ∷ []) axs
mentioned_one old new x axs is next a low high = inl (inl (omega (arith, is, next, low, high)))

-- what a row says of its parts
pub covers_some : (sign : Bool) (x r y : ℕ) → Covers (y ∷ []) (some_rows sign x r y)
covers_some true x r y a (inl is) = (n2 (triple x r y), inl refl, inr is)
covers_some true x r y a (inr m) = absurd m
covers_some false x r y a (inl is) = (n3 (triple y r x), inl refl, inl is)
covers_some false x r y a (inr m) = absurd m

pub covers_to_each : (x : ℕ) (ys : List ℕ) → Covers ys (map (λ y. implies (x ∷ []) (y ∷ [])) ys)
covers_to_each x ys a m = (implies (x ∷ []) (a ∷ []), member_map (λ y. implies (x ∷ []) (y ∷ [])) a ys m, inr (inl refl))

pub covers_from_each : (x : ℕ) (ys : List ℕ) → Covers ys (map (λ y. implies (y ∷ []) (x ∷ [])) ys)
covers_from_each x ys a m = (implies (a ∷ []) (x ∷ []), member_map (λ y. implies (y ∷ []) (x ∷ [])) a ys m, inl (inl refl))

pub covers_list : (meet sign : Bool) (x : ℕ) (ys : List ℕ) → Covers ys (list_rows meet sign x ys)
covers_list true true x ys a m = covers_to_each x ys a m
covers_list true false x ys a m = (implies ys (x ∷ []), inl refl, inl m)
covers_list false true x ys a m = (implies (x ∷ []) ys, inl refl, inr m)
covers_list false false x ys a m = covers_from_each x ys a m

pub covers_all : (x r y : ℕ) → Covers (y ∷ []) (n4 (triple x r y) ∷ [])
covers_all x r y a (inl is) = (n4 (triple x r y), inl refl, inr is)
covers_all x r y a (inr m) = absurd m

pub covers_rest : (x r z : ℕ) → Covers (z ∷ []) (rest_rows x r z)
covers_rest x r z a (inl is) = (n2 (triple (x + 1) r z), inr (inl refl), inr is)
covers_rest x r z a (inr m) = absurd m

pub mentioned_rest : (old new : Maker) (x r z : ℕ) → x ≡ old.next → new.next ≡ old.next + 2 → Mentioned old new (x ∷ []) (rest_rows x r z)
mentioned_rest old new x r z is next a low high = elim (cases_lt a (x + 1)) [
  | inl h ↦ inl (inl (omega (arith, is, low, h)))
  | inr h ↦ inr (implies [] (x ∷ (x + 1) ∷ []), inl refl, inr (inr (inl (omega (arith, is, next, h, high)))))
]
