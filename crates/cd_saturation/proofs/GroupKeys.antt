-- The keys of groups may be started, and what their contexts tell is a test of the group.
use Rattle.std.proofs.Common.{◌≡◌, ◌⊎◌, ℕ, Bool, true, List, [], ◌∷◌, refl, ap, inl, inr}
use Rattle.cd_base.specs.Keys.{plain, is_named}
use Rattle.cd_base.specs.Lists.{OneOf}
use Rattle.cd_base.specs.declared.normal.Normal.{Normal}
use Rattle.cd_clause.specs.Derivations.{IsStart, MayBeAsked, start_key}
use Rattle.cd_cell.specs.TrueAnswers.{IsTrueTest}
use Rattle.cd_saturation.specs.Decided.{IsTrueTestOf}
use Rattle.cd_saturation.specs.Groups.{key_of, with_negated}

-- the names, the last first, before others
abbrev onto : List ℕ → List ℕ → List ℕ
onto [] ys = ys
onto (x ∷ xs) ys = onto xs (x ∷ ys)

grown_start : (a : ℕ) (xs ys : List ℕ) → with_negated (start_key a ys) xs ≡ start_key a (onto xs ys)
grown_start a [] ys = refl
grown_start a (x ∷ xs) ys = grown_start a xs (x ∷ ys)

pub key_is_start : (a : ℕ) (names : List ℕ) → key_of a names ≡ start_key a (onto names [])
key_is_start a names = grown_start a names []

member_onto : (b : ℕ) (xs ys : List ℕ) → OneOf b xs ⊎ OneOf b ys → OneOf b (onto xs ys)
member_onto b [] ys (inl m) = absurd m
member_onto b [] ys (inr m) = m
member_onto b (x ∷ xs) ys (inl (inl q)) = member_onto b xs (x ∷ ys) (inr (inl q))
member_onto b (x ∷ xs) ys (inl (inr m)) = member_onto b xs (x ∷ ys) (inl m)
member_onto b (x ∷ xs) ys (inr m) = member_onto b xs (x ∷ ys) (inr (inr m))

onto_member : (b : ℕ) (xs ys : List ℕ) → OneOf b (onto xs ys) → OneOf b xs ⊎ OneOf b ys
onto_member b [] ys m = inr m
onto_member b (x ∷ xs) ys m = elim (onto_member b xs (x ∷ ys) m) [
  | inl k ↦ inl (inr k)
  | inr k ↦ elim k [ inl q ↦ inl (inl q) | inr j ↦ inr j ]
]

one_of : (b : ℕ) (names : List ℕ) → OneOf b (onto names []) → OneOf b names
one_of b names m = elim (onto_member b names [] m) [ inl k ↦ k | inr z ↦ absurd z ]

-- the key of a named class
pub class_start : (n : Normal) (a : ℕ) → is_named n a ≡ true → IsStart n (plain a ∷ [])
class_start n a named = record { atom = a; others = []; named = named; asked = λ b m. absurd m; is = refl }

-- the key of a group of a named class and names
pub group_start : (n : Normal) (a : ℕ) (names : List ℕ) → is_named n a ≡ true → ((b : ℕ) → OneOf b names → MayBeAsked n a b) → IsStart n (key_of a names)
group_start n a names named each = record {
  atom = a;
  others = onto names [];
  named = named;
  asked = λ b m. each b (one_of b names m);
  is = key_is_start a names;
}

pub group_test : (n : Normal) (a : ℕ) (names : List ℕ) (empty : Bool) → IsTrueTestOf n (key_of a names) empty → IsTrueTest n a names empty
group_test n a names empty h =
    let t = h a (onto names []) (key_is_start a names) in
    record {
      some = λ e i model x l d. (let r = t.some e i model x l d in (r.0, one_of r.0 names r.1, r.2));
      one = λ b e h. t.one b (ap (λ (l : List ℕ). onto l []) e) h;
      none = λ e b m every. t.none e b (member_onto b names [] (inl m)) every;
    }
