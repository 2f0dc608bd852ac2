-- The literals of a key, by their codes.
use Rattle.std.proofs.Common.{◌≡◌, ℕ, ◌+◌, ◌*◌, ◌==◌, Bool, true, false, cond, List, [], ◌∷◌, map, sym, ◌∙◌, ap, subst, inl, inr, arith, eqb-true, eq-eqb}
use Rattle.std.specs.List.{list_any}
use Rattle.std.proofs.lemmas.Bool.{both_ways}
use Rattle.cd_base.specs.Lists.{OneOf, SameSet}
use Rattle.cd_base.specs.Keys.{code, plain}
use Rattle.cd_base.specs.declared.lit.Lit.{Lit}
use Rattle.cd_base.proofs.Members.{any_by_member, any_member, map_member, member_map, true_or_false}
use Rattle.cd_clause.specs.declared.elem.Elem.{Elem}
use Rattle.cd_clause.specs.declared.elem.Elem.TheVariants.{Plain}
use Rattle.cd_rules.specs.Parts.{IsInitBy}
use Rattle.cd_rules.specs.Steps.{IsInit}
use Rattle.cd_base.proofs.Appending.{OfOne}

code_of_plain : (l : Lit) → l.negated ≡ false → code l ≡ plain l.atom
code_of_plain l e = ap (λ b. cond b (2 * l.atom + 1) (2 * l.atom)) e

plain_code : (l : Lit) (a : ℕ) → plain a ≡ code l → (l.negated ≡ false) × (l.atom ≡ a)
plain_code l a e = elim (true_or_false l.negated) [
  | inl t ↦ (let odd : 2 * a ≡ 2 * l.atom + 1 = e ∙ ap (λ b. cond b (2 * l.atom + 1) (2 * l.atom)) t in absurd (omega arith))
  | inr f ↦ (let even : 2 * a ≡ 2 * l.atom = e ∙ ap (λ b. cond b (2 * l.atom + 1) (2 * l.atom)) f in let same : l.atom ≡ a = omega arith in (f, same))
]

-- what its literals add is what Init adds
pub init_of_lits : (lits : List Lit) (key : List ℕ) (d : List Elem) → map code lits ≡ key → OfOne IsInitBy lits d → IsInit key d
init_of_lits lits key d codes q =
    let isin : OneOf (code q.0) key = subst (λ (k : List ℕ). OneOf (code q.0) k) codes (member_map code q.0 lits q.1) in
    (q.0.atom, subst (λ (n : ℕ). OneOf n key) (code_of_plain q.0 q.2.0) isin, q.2.1)

pub lits_of_init : (lits : List Lit) (key : List ℕ) (d : List Elem) → map code lits ≡ key → IsInit key d → OfOne IsInitBy lits d
lits_of_init lits key d codes p =
    let r = map_member code (plain p.0) lits (subst (λ (k : List ℕ). OneOf (plain p.0) k) (sym codes) p.1) in
    let same = plain_code r.0 p.0 r.2 in
    (r.0, r.1, (same.0, subst (λ (a : ℕ). SameSet d (Plain a ∷ [])) (sym same.1) p.2))

-- the test of the codes of the literals finds a code of the key
pub code_found : (lits : List Lit) (key : List ℕ) (n m : ℕ) (b : Bool) → map code lits ≡ key → n ≡ m → b ≡ list_any (λ k. k == n) (map code lits) → b ≡ true → OneOf m key
code_found lits key n m b codes same is t =
    let r = any_member (λ (k : ℕ). k == n) (map code lits) (sym is ∙ t) in
    let e : r.0 ≡ m = eqb-true r.0 n r.2 ∙ same in
    subst (λ (k : List ℕ). OneOf m k) codes (subst (λ (k : ℕ). OneOf k (map code lits)) e r.1)

-- and misses none
pub code_missed : (lits : List Lit) (key : List ℕ) (n m : ℕ) (b : Bool) → map code lits ≡ key → n ≡ m → b ≡ list_any (λ k. k == n) (map code lits) → b ≡ false → OneOf m key → ⊥
code_missed lits key n m b codes same is f isin =
    both_ways b f (is ∙ any_by_member (λ (k : ℕ). k == n) (map code lits) m (subst (λ (k : List ℕ). OneOf m k) (sym codes) isin) (eq-eqb m n (sym same)))
