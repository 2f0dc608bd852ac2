-- Documents that say the same have the same answer.
use Rattle.std.proofs.Common.{◌≡◌, ℕ, ◌<◌, Bool, List, [], length, refl, sym, ap, subst, ◌∙◌}
use Rattle.std.specs.Prelude.{Some, ◌↔◌}
use Rattle.std.specs.List.{Contains}
use Rattle.std.proofs.lemmas.List.{get_or_default}
use Rattle.std.proofs.lemmas.Option.{slice_get_within, get_or_from_slice_get, slice_get-get_or}
use Rattle.cd_meaning.specs.declared.document.Document.{Document}
use Rattle.cd_meaning.specs.Answer.{Decides, IsAnswer}
use Rattle.cd_meaning.specs.Entailment.{Entails}
use Rattle.cd_meaning.specs.Hierarchy.{name_of}
use Rattle.cd_meaning.specs.Text.{text}
use Rattle.cd_names.specs.Names.{number}
use Rattle.cd_taxonomy.proofs.Decided.{subsumption}
use Rattle.cd_taxonomy.proofs.Lists.{same_tests}
use Rattle.cd_top.specs.Restated.{EntailsNamed, SaysTheSame, SameHaveSameAnswer}
use Rattle.cd_top.proofs.Renumbering.{same_text}
use Rattle.cd_top.proofs.RestatedNames.{AreDistinct, number_inside, number_names, number_is, same_number}

-- the names of a document's classes are distinct
names_of : (document : Document) → AreDistinct document.classes
names_of document = record { reserved = document.reserved; distinct = document.distinct_classes }

-- ---- by number and by name

is_name : (names : List (List ℕ)) (c : ℕ) → c < length names → Contains names (name_of names c)
is_name names c c_in = (c, c_in, get_or_default names c (name_of names c) [] c_in)

module _ (given : Document) (a b : ℕ) (a_in : a < length given.classes) (b_in : b < length given.classes)
    (i j : List ℕ) (a_is : name_of given.classes a ≡ i) (b_is : name_of given.classes b ≡ j) where
  by_name : Entails given.axioms a b → EntailsNamed given i j
  by_name follows = (
    a,
    b,
    slice_get-get_or given.classes a [] a_in ∙ ap (λ (x : List ℕ). Some x) a_is,
    slice_get-get_or given.classes b [] b_in ∙ ap (λ (x : List ℕ). Some x) b_is,
    follows,
  )

  by_number : EntailsNamed given i j → Entails given.axioms a b
  by_number (c, d, c_at, d_at, follows) =
      let a_same : c ≡ a = same_number given.classes given.distinct_classes c a (slice_get_within given.classes c i c_at) a_in [] []
      (get_or_from_slice_get given.classes c i [] c_at ∙ sym a_is) in
      let b_same : d ≡ b = same_number given.classes given.distinct_classes d b (slice_get_within given.classes d j d_at) b_in [] []
      (get_or_from_slice_get given.classes d j [] d_at ∙ sym b_is) in
      subst (λ x. Entails given.axioms x b) a_same (subst (λ y. Entails given.axioms c y) b_same follows)

-- ---- two documents

module _ (given said : Document) (same : SaysTheSame given said) where
  -- the class's number in the other document, and back
  abbrev to : ℕ → ℕ
  to c = number said.classes (name_of given.classes c)

  abbrev back : ℕ → ℕ
  back d = number given.classes (name_of said.classes d)

  there : (c : ℕ) → c < length given.classes → Contains said.classes (name_of given.classes c)
  there c c_in = (same.classes (name_of given.classes c)).0 (is_name given.classes c c_in)

  to_in : (c : ℕ) → c < length given.classes → to c < length said.classes
  to_in c c_in = number_inside said.classes (name_of given.classes c) (there c c_in)

  to_named : (c : ℕ) → c < length given.classes → name_of said.classes (to c) ≡ name_of given.classes c
  to_named c c_in = number_names said.classes (name_of given.classes c) [] (there c c_in)

  here : (d : ℕ) → d < length said.classes → Contains given.classes (name_of said.classes d)
  here d d_in = (same.classes (name_of said.classes d)).1 (is_name said.classes d d_in)

  back_in : (d : ℕ) → d < length said.classes → back d < length given.classes
  back_in d d_in = number_inside given.classes (name_of said.classes d) (here d d_in)

  back_named : (d : ℕ) → d < length said.classes → name_of given.classes (back d) ≡ name_of said.classes d
  back_named d d_in = number_names given.classes (name_of said.classes d) [] (here d d_in)

  onto : (d : ℕ) → d < length said.classes → (c : ℕ) × (c < length given.classes) × (to c ≡ d)
  onto d d_in = (
    back d,
    back_in d d_in,
    ap (number said.classes) (back_named d d_in) ∙ number_is said.classes said.distinct_classes (name_of said.classes d) d [] d_in refl,
  )

  -- classes with the same names are below each other in both or in neither
  same_entailed : (a b c d : ℕ) → a < length given.classes → b < length given.classes → c < length said.classes → d < length said.classes
      → name_of said.classes c ≡ name_of given.classes a → name_of said.classes d ≡ name_of given.classes b
      → Entails given.axioms a b ↔ Entails said.axioms c d
  same_entailed a b c d a_in b_in c_in d_in c_is d_is =
      let i : List ℕ = name_of given.classes a in
      let j : List ℕ = name_of given.classes b in (
        λ follows. by_number said c d c_in d_in i j c_is d_is ((same.below i j).0 (by_name given a b a_in b_in i j refl refl follows)),
        λ follows. by_number given a b a_in b_in i j refl refl ((same.below i j).1 (by_name said c d c_in d_in i j c_is d_is follows)),
      )

  module _ (below : ℕ → ℕ → Bool) (decided : Decides given below) where
    -- the relation by the other numbers
    abbrev moved : ℕ → ℕ → Bool
    moved c d = below (back c) (back d)

    moved_decides : Decides said moved
    moved_decides c d c_in d_in =
        let e = same_entailed (back c) (back d) c d (back_in c c_in) (back_in d d_in) c_in d_in (sym (back_named c c_in)) (sym (back_named d d_in)) in
        let t = decided (back c) (back d) (back_in c c_in) (back_in d d_in) in
        (λ h. e.0 (t.0 h), λ follows. t.1 (e.1 follows))

    texts : (below' : ℕ → ℕ → Bool) → Decides said below' → text said.classes below' ≡ text given.classes below
    texts below' decided' =
        same_text given.classes said.classes below below' to (names_of given) (names_of said) (subsumption given below decided) to_in to_named onto
        (λ a b a_in b_in.
        let e = same_entailed a b (to a) (to b) a_in b_in (to_in a a_in) (to_in b b_in) (to_named a a_in) (to_named b b_in) in
        let t = decided a b a_in b_in in
        let t' = decided' (to a) (to b) (to_in a a_in) (to_in b b_in) in
        same_tests (below' (to a) (to b)) (below a b) (λ h. t.1 (e.1 (t'.0 h))) (λ h. t'.1 (e.0 (t.0 h))))

-- the answer to one document is the answer to another one that says the same
pub also_answer : (given said : Document) (bytes : List ℕ) → SaysTheSame given said → IsAnswer given bytes → IsAnswer said bytes
also_answer given said bytes same (below, decided, is) =
    let decided' = moved_decides given said same below decided in
    (moved given said same below decided, decided', is ∙ sym (texts given said same below decided (moved given said same below decided) decided'))

pub same_answer : SameHaveSameAnswer
same_answer given said a b same (below, decided, is) (below', decided', is') = is ∙ sym (texts given said same below decided below' decided') ∙ sym is'
