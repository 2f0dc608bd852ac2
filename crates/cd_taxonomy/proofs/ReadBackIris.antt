-- A line of a taxonomy tells which classes it is of.
use Rattle.std.proofs.Common.{◌≡◌, ◌≢◌, ℕ, ◌<◌, ◌==◌, List, [], ◌∷◌, ◌++◌, length, map, slice_index, refl, sym, ap, subst, ◌∙◌, arith, inl, inr}
use Rattle.std.specs.Prelude.{codes}
use Rattle.std.specs.List.{All, AllByRecursion, AllPairs, Contains, slice_split, join_with_byte}
use Rattle.std.proofs.lemmas.Bool.{cases_order}
use Rattle.std.proofs.lemmas.List.{append_cancel_left, append_cancel_right}
use Rattle.std.proofs.lemmas.List.Elements.{All-contains, recursion_from_All}
use Rattle.std.proofs.lemmas.List.Splits.{slice_split_at, slice_split_none}
use Rattle.cd_base.specs.Iri.{IsIri}
use Rattle.cd_meaning.specs.Hierarchy.{name_of}
use Rattle.cd_meaning.specs.Text.{full_iri, line, equivalent_line, subclass_line}
use Rattle.cd_taxonomy.proofs.Lists.{Contains-map, Contains-from_map}
use Rattle.cd_taxonomy.proofs.ReadBackLines.{Lacks, operands_lack}

-- ---- operands with a space between two

split_operands : (x : List ℕ) (xs : List (List ℕ)) → AllByRecursion (Lacks 32) (x ∷ xs) → slice_split (λ b. b == 32) (join_with_byte 32 (x ∷ xs)) ≡ x ∷ xs
split_operands x [] h = slice_split_none (λ b. b == 32) x h.0
split_operands x (y ∷ more) h =
    slice_split_at (λ b. b == 32) x 32 (join_with_byte 32 (y ∷ more)) h.0 refl ∙ ap (λ (xs : List (List ℕ)). x ∷ xs) (split_operands y more h.1)

module _ (names : List (List ℕ)) (iris : All IsIri names) where
  operands_split : (c : ℕ) (cs : List ℕ) → slice_split (λ b. b == 32) (join_with_byte 32 (map (full_iri names) (c ∷ cs))) ≡ map (full_iri names) (c ∷ cs)
  operands_split c cs = split_operands (full_iri names c) (map (full_iri names) cs)
      (recursion_from_All (Lacks 32) (map (full_iri names) (c ∷ cs)) (operands_lack names iris 32 (omega arith) (c ∷ cs)))

  same_operands : (word : List ℕ) (c d : ℕ) (cs ds : List ℕ) → line names word (c ∷ cs) ≡ line names word (d ∷ ds) → map (full_iri names) (c ∷ cs) ≡ map (full_iri names) (d ∷ ds)
  same_operands word c d cs ds same =
      let left : List ℕ = join_with_byte 32 (map (full_iri names) (c ∷ cs)) in
      let right : List ℕ = join_with_byte 32 (map (full_iri names) (d ∷ ds)) in
      let fronts : word ++ 40 ∷ left ≡ word ++ 40 ∷ right = append_cancel_right (word ++ 40 ∷ left) (word ++ 40 ∷ right) (41 ∷ []) same in
      let joined : left ≡ right = append_cancel_left (40 ∷ []) left right (append_cancel_left word (40 ∷ left) (40 ∷ right) fronts) in
      sym (operands_split c cs) ∙ ap (slice_split (λ b. b == 32)) joined ∙ operands_split d ds

-- ---- a full IRI tells the class

module _ (names : List (List ℕ)) (distinct : AllPairs (λ a b. a ≢ b) names) where
  same_name : (a b : ℕ) → a < length names → b < length names → name_of names a ≡ name_of names b → a ≡ b
  same_name a b a_in b_in same = elim (cases_order a b) [
    | inl is ↦ is
    | inr (inl less) ↦ absurd (distinct a b [] less b_in same)
    | inr (inr more) ↦ absurd (distinct b a [] more a_in (sym same))
  ]

  same_iri : (a b : ℕ) → a < length names → b < length names → full_iri names a ≡ full_iri names b → a ≡ b
  same_iri a b a_in b_in same =
      same_name a b a_in b_in
      (append_cancel_left (60 ∷ []) (name_of names a) (name_of names b) (append_cancel_right (60 ∷ name_of names a) (60 ∷ name_of names b) (62 ∷ []) same))

-- ---- a line tells its classes

module _ (names : List (List ℕ)) (iris : All IsIri names) (distinct : AllPairs (λ a b. a ≢ b) names) where
  -- a class that a line lists is in the group that the line is of
  pub listed_in_group : (a : ℕ) (listed group : List ℕ) → a < length names → All (λ c. c < length names) group → 0 < length group
      → equivalent_line names listed ≡ equivalent_line names group → Contains listed a → Contains group a
  listed_in_group a [] group a_in within some same at = absurd (omega (arith, at.1))
  listed_in_group a (c ∷ cs) [] a_in within some same at = absurd (omega arith)
  listed_in_group a (c ∷ cs) (d ∷ ds) a_in within some same at =
      let operands = same_operands names iris (codes "EquivalentClasses") c d cs ds same in
      let shown : Contains (map (full_iri names) (d ∷ ds)) (full_iri names a)
      = subst (λ (xs : List (List ℕ)). Contains xs (full_iri names a)) operands (Contains-map (full_iri names) (c ∷ cs) a at) in
      let found = Contains-from_map (full_iri names) (d ∷ ds) (full_iri names a) shown in
      let is : found.0 ≡ a = same_iri names distinct (found.0) a (All-contains (λ c. c < length names) (d ∷ ds) (found.0) within found.1) a_in found.2 in
      subst (Contains (d ∷ ds)) is found.1

  pub same_subclass : (a b c d : ℕ) → a < length names → b < length names → c < length names → d < length names
      → subclass_line names a b ≡ subclass_line names c d → (a ≡ c) × (b ≡ d)
  same_subclass a b c d a_in b_in c_in d_in same =
      let operands : full_iri names a ∷ full_iri names b ∷ [] ≡ full_iri names c ∷ full_iri names d ∷ []
      = same_operands names iris (codes "SubClassOf") a c (b ∷ []) (d ∷ []) same in
      (same_iri names distinct a c a_in c_in cc, same_iri names distinct b d b_in d_in cc)

-- ---- lines that begin with other letters

pub apart_at_start : (l m : List ℕ) → slice_index l 0 ≢ slice_index m 0 → l ≢ m
apart_at_start l m other same = other (ap (λ (bytes : List ℕ). slice_index bytes 0) same)
