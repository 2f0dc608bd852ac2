-- The text of a taxonomy depends on the relation between the document's classes alone.
use Rattle.std.proofs.Common.{◌≡◌, ℕ, zero, suc, ◌+◌, ◌<◌, Bool, true, false, not, ◌&&◌, ◌||◌, ◌==◌, List, [], ◌∷◌, ◌++◌, length, filter, flat_map, refl, sym, ap, ◌∙◌, arith, cond, length-take}
use Rattle.std.specs.List.{list_any, range_with_len, AllByRecursion}
use Rattle.std.specs.Prelude.{codes}
use Rattle.std.proofs.lemmas.Bool.Decides.{same_from_decides}
use Rattle.cd_meaning.specs.declared.document.Document.{Document}
use Rattle.cd_meaning.specs.Answer.{IsAnswer}
use Rattle.cd_meaning.specs.Hierarchy.{is_before, put_in_order, in_order, classes_in_order, first_or, is_equivalent, is_strictly_below, is_reserved, group_of, representative, representatives, members, is_parent, parents, proper}
use Rattle.cd_meaning.specs.Text.{ended, group_text, parents_text, text}

-- ---- lists

module _ {X : Type 0} (p q : X → Bool) where
  filter_same : (xs : List X) → AllByRecursion (λ x. p x ≡ q x) xs → filter p xs ≡ filter q xs
  filter_same [] h = refl
  filter_same (x ∷ xs) h =
      ap (λ (t : Bool). cond t (x ∷ filter p xs) (filter p xs)) h.0 ∙ ap (λ (ys : List X). cond (q x) (x ∷ ys) ys) (filter_same xs h.1)

  any_same : (xs : List X) → AllByRecursion (λ x. p x ≡ q x) xs → list_any p xs ≡ list_any q xs
  any_same [] h = refl
  any_same (x ∷ xs) h = ap (λ (t : Bool). t || list_any p xs) h.0 ∙ ap (λ (t : Bool). q x || t) (any_same xs h.1)

flat_map_same : {X Y : Type 0} (f g : X → List Y) (xs : List X) → AllByRecursion (λ x. f x ≡ g x) xs → flat_map f xs ≡ flat_map g xs
flat_map_same f g [] h = refl
flat_map_same {Y = Y} f g (x ∷ xs) h = ap (λ (ys : List Y). ys ++ flat_map f xs) h.0 ∙ ap (λ (ys : List Y). g x ++ ys) (flat_map_same f g xs h.1)

all_weaker : {X : Type 0} (P Q : X → Type 0) (xs : List X) → ((x : X) → P x → Q x) → AllByRecursion P xs → AllByRecursion Q xs
all_weaker P Q [] f h = tt
all_weaker P Q (x ∷ xs) f h = (f x h.0, all_weaker P Q xs f h.1)

all_kept : {X : Type 0} (P : X → Type 0) (p : X → Bool) (xs : List X) → AllByRecursion P xs → AllByRecursion P (filter p xs)
all_kept P p [] h = tt
all_kept P p (x ∷ xs) h =
    elim (p x) as (λ t. AllByRecursion P (cond t (x ∷ filter p xs) (filter p xs))) [ true ↦ (h.0, all_kept P p xs h.1) | false ↦ all_kept P p xs h.1 ]

-- ---- the classes are those of the document

module _ (names : List (List ℕ)) where
  put_within : (P : ℕ → Type 0) (c : ℕ) (ds : List ℕ) → P c → AllByRecursion P ds → AllByRecursion P (put_in_order names c ds)
  put_within P c [] h all = (h, tt)
  put_within P c (d ∷ ds) h all =
      elim (is_before names c d) as (λ t. AllByRecursion P (cond t (c ∷ d ∷ ds) (d ∷ put_in_order names c ds))) [
        | true ↦ (h, all)
        | false ↦ (all.0, put_within P c ds h all.1)
      ]

  order_within : (P : ℕ → Type 0) (cs : List ℕ) → AllByRecursion P cs → AllByRecursion P (in_order names cs)
  order_within P [] h = tt
  order_within P (c ∷ cs) h = put_within P c (in_order names cs) h.0 (order_within P cs h.1)

range_within : (low n : ℕ) → AllByRecursion (λ c. c < low + n) (range_with_len low n)
range_within low zero = tt
range_within low (suc n) = (omega arith, all_weaker (λ c. c < (low + 1) + n) (λ c. c < low + suc n) (range_with_len (low + 1) n) (λ c h. omega arith) (range_within (low + 1) n))

module _ (names : List (List ℕ)) (one two : ℕ → ℕ → Bool) (some : 1 < length names)
    (agree : (c d : ℕ) → c < length names → d < length names → one c d ≡ two c d) where
  abbrev Within : ℕ → Type 0
  Within c = c < length names

  all_classes : AllByRecursion Within (classes_in_order names)
  all_classes = order_within names Within (range_with_len 0 (length names))
      (all_weaker (λ c. c < 0 + length names) Within (range_with_len 0 (length names)) (λ c h. omega arith) (range_within 0 (length names)))

  same_same : (c d : ℕ) → Within c → Within d → is_equivalent one c d ≡ is_equivalent two c d
  same_same c d hc hd = ap (λ (t : Bool). t && one d c) (agree c d hc hd) ∙ ap (λ (t : Bool). two c d && t) (agree d c hd hc)

  same_strictly : (c d : ℕ) → Within c → Within d → is_strictly_below one c d ≡ is_strictly_below two c d
  same_strictly c d hc hd = ap (λ (t : Bool). t && not (one d c)) (agree c d hc hd) ∙ ap (λ (t : Bool). two c d && not t) (agree d c hd hc)

  same_group : (c : ℕ) → Within c → group_of names one c ≡ group_of names two c
  same_group c hc = filter_same (is_equivalent one c) (is_equivalent two c) (classes_in_order names)
      (all_weaker Within (λ d. is_equivalent one c d ≡ is_equivalent two c d) (classes_in_order names) (λ d hd. same_same c d hc hd) all_classes)

  same_representative : (c : ℕ) → Within c → representative names one c ≡ representative names two c
  same_representative c hc =
      ap (λ (t : Bool). cond t 1 (cond (is_equivalent one c 0) 0 (first_or c (group_of names one c)))) (same_same c 1 hc some)
      ∙ ap (λ (t : Bool). cond (is_equivalent two c 1) 1 (cond t 0 (first_or c (group_of names one c)))) (same_same c 0 hc (omega arith))
      ∙ ap (λ (cs : List ℕ). cond (is_equivalent two c 1) 1 (cond (is_equivalent two c 0) 0 (first_or c cs))) (same_group c hc)

  same_representatives : representatives names one ≡ representatives names two
  same_representatives = filter_same (λ c. representative names one c == c) (λ c. representative names two c == c) (classes_in_order names)
      (all_weaker Within (λ c. (representative names one c == c) ≡ (representative names two c == c)) (classes_in_order names)
      (λ c hc. ap (λ (r : ℕ). r == c) (same_representative c hc)) all_classes)

  all_representatives : AllByRecursion Within (representatives names two)
  all_representatives = all_kept Within (λ c. representative names two c == c) (classes_in_order names) all_classes

  same_members : (r : ℕ) → Within r → members names one r ≡ members names two r
  same_members r hr = ap (λ (cs : List ℕ). r ∷ filter (λ c. not (c == r)) cs) (same_group r hr)

  same_parent : (c d : ℕ) → Within c → Within d → is_parent names one c d ≡ is_parent names two c d
  same_parent c d hc hd =
      let between : (ℕ → ℕ → Bool) → ℕ → Bool = λ b e. is_strictly_below b c e && is_strictly_below b e d in
      let inside : list_any (between one) (representatives names one) ≡ list_any (between two) (representatives names two)
      = ap (list_any (between one)) same_representatives
      ∙ any_same (between one) (between two) (representatives names two)
      (all_weaker Within (λ e. between one e ≡ between two e) (representatives names two)
      (λ e he. ap (λ (t : Bool). t && is_strictly_below one e d) (same_strictly c e hc he)
      ∙ ap (λ (t : Bool). is_strictly_below two c e && t) (same_strictly e d he hd)) all_representatives) in
      ap (λ (t : Bool). t && not (list_any (between one) (representatives names one))) (same_strictly c d hc hd)
      ∙ ap (λ (t : Bool). is_strictly_below two c d && not t) inside

  same_parents : (r : ℕ) → Within r → parents names one r ≡ parents names two r
  same_parents r hr =
      ap (filter (is_parent names one r)) same_representatives
      ∙ filter_same (is_parent names one r) (is_parent names two r) (representatives names two)
      (all_weaker Within (λ d. is_parent names one r d ≡ is_parent names two r d) (representatives names two) (λ d hd. same_parent r d hr hd) all_representatives)

  abbrev is_proper : (ℕ → ℕ → Bool) → ℕ → Bool
  is_proper b r = not (list_any is_reserved (members names b r))

  same_proper : proper names one ≡ proper names two
  same_proper =
      ap (filter (is_proper one)) same_representatives
      ∙ filter_same (is_proper one) (is_proper two) (representatives names two)
      (all_weaker Within (λ r. is_proper one r ≡ is_proper two r) (representatives names two)
      (λ r hr. ap (λ (ms : List ℕ). not (list_any is_reserved ms)) (same_members r hr))
      all_representatives)

  all_proper : AllByRecursion Within (proper names two)
  all_proper = all_kept Within (is_proper two) (representatives names two) all_representatives

  abbrev groups_in : (ℕ → ℕ → Bool) → ℕ → List ℕ
  groups_in b r = group_text names (members names b r)

  abbrev links_in : (ℕ → ℕ → Bool) → ℕ → List ℕ
  links_in b r = parents_text names r (parents names b r)

  groups_same : flat_map (groups_in one) (representatives names one) ≡ flat_map (groups_in two) (representatives names two)
  groups_same =
      ap (flat_map (groups_in one)) same_representatives
      ∙ flat_map_same (groups_in one) (groups_in two) (representatives names two)
      (all_weaker Within (λ r. groups_in one r ≡ groups_in two r) (representatives names two) (λ r hr. ap (group_text names) (same_members r hr)) all_representatives)

  links_same : flat_map (links_in one) (proper names one) ≡ flat_map (links_in two) (proper names two)
  links_same =
      ap (flat_map (links_in one)) same_proper
      ∙ flat_map_same (links_in one) (links_in two) (proper names two)
      (all_weaker Within (λ r. links_in one r ≡ links_in two r) (proper names two) (λ r hr. ap (parents_text names r) (same_parents r hr)) all_proper)

  pub same_text : text names one ≡ text names two
  same_text =
      ap (λ (bs : List ℕ). ended (codes "Ontology(") ++ bs ++ flat_map (links_in one) (proper names one) ++ ended (codes ")")) groups_same
      ∙ ap (λ (bs : List ℕ). ended (codes "Ontology(") ++ flat_map (groups_in two) (representatives names two) ++ bs ++ ended (codes ")")) links_same

-- ---- so a document has one answer

two_classes : (document : Document) → 1 < length document.classes
two_classes document = omega (arith, length-take 2 document.classes, ap length document.reserved)

pub one_answer : (document : Document) (a b : List ℕ) → IsAnswer document a → IsAnswer document b → a ≡ b
one_answer document a b (one, decides_one, is_a) (two, decides_two, is_b) =
    is_a ∙ same_text document.classes one two (two_classes document)
    (λ c d hc hd. same_from_decides (one c d) (two c d) (decides_one c d hc hd) (decides_two c d hc hd)) ∙ sym is_b
