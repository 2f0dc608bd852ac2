-- The normal axioms of a document, from what was made of its axioms.
use Rattle.std.proofs.Common.{◌≡◌, ◌↔◌, ℕ, ◌-◌, ◌<◌, Bool, true, false, List, [], ◌∷◌, ◌++◌, map, length, replicate, refl, sym, ap, subst, ◌∙◌, inl, inr, arith}
use Rattle.std.specs.List.{list_all}
use Rattle.cd_meaning.specs.declared.document.Document.{Document}
use Rattle.cd_meaning.specs.declared.expression.Axiom.{Axiom}
use Rattle.cd_meaning.specs.Numbered.{has_numbers_below}
use Rattle.cd_meaning.specs.NormalAxioms.{NormalAxiom, n1, n2, n3, n4, n5, HasNormal, implies}
use Rattle.cd_base.specs.declared.normal.Normal.{Normal}
use Rattle.cd_base.specs.Lists.{OneOf}
use Rattle.cd_base.specs.Normal.{has_atoms_below, is_triple_below, has_roles_below}
use Rattle.cd_normal.specs.declared.maker.Maker.{Maker}
use Rattle.cd_normal.specs.Represents.{Label}
use Rattle.cd_normal.specs.NormalForm.{IsFresh, GivesFrom, IsStructuralNormalForm}
use Rattle.cd_normal.specs.Made.{HasNow, Adds, IsGiven, IsMadeOf}
use Rattle.cd_normal.proofs.Tests.{all_by_member}
use Rattle.cd_normal.proofs.Making.{adds_both}
use Rattle.cd_normal.proofs.FitsAxioms.{two_long}
use Rattle.cd_normal.proofs.Ranges.{AllWithin, none_below, one_below, implies_within, add_within}
use Rattle.cd_normal.proofs.RangesAxioms.{from_within}

-- there are no axioms in empty lists
pub empty_has : (m : Maker) → m.n1.items ≡ [] → m.n2.items ≡ [] → m.n3.items ≡ [] → m.n4.items ≡ [] → m.n5.items ≡ [] → (a : NormalAxiom) → HasNow m a → ⊥
empty_has m e1 e2 e3 e4 e5 (n1 c) h = subst (OneOf c) e1 h
empty_has m e1 e2 e3 e4 e5 (n2 t) h = subst (OneOf t) e2 h
empty_has m e1 e2 e3 e4 e5 (n3 t) h = subst (OneOf t) e3 h
empty_has m e1 e2 e3 e4 e5 (n4 t) h = subst (OneOf t) e4 h
empty_has m e1 e2 e3 e4 e5 (n5 p) h = subst (OneOf p) e5 h

pub made_of : (classes : ℕ) (axioms : List Axiom) (old m1 m2 new : Maker) → old.next ≡ classes → ((a : NormalAxiom) → HasNow old a → ⊥) → IsGiven classes old m1 (λ F axs. GivesFrom classes F 0 axioms axs)
    → m2.next ≡ m1.next → Adds m1 m2 (implies (1 ∷ []) [] ∷ []) → new.next ≡ m2.next → Adds m2 new (implies [] (0 ∷ []) ∷ []) → IsMadeOf classes axioms new
made_of classes axioms old m1 m2 new start empty given next2 adds2 next3 adds3 =
    let m = given [] (omega (arith, start)) in
    let counted = m.count in
    let adds = adds_both old m2 new (implies (1 ∷ []) [] ∷ m.axs) (implies [] (0 ∷ []) ∷ []) (adds_both old m1 m2 m.axs (implies (1 ∷ []) [] ∷ []) m.adds adds2) adds3 in
    record {
      labels = m.after;
      axs = m.axs;
      gives = m.made;
      atoms = omega (arith, next2, next3, counted);
      have = λ a. (λ h. elim ((adds a).0 h) [ inl o ↦ absurd (empty a o) | inr k ↦ k ], λ k. (adds a).1 (inr k));
      paired = m.paired (λ a x e f. absurd (omega (arith, f.2)));
      mentioned = λ a low high. elim (m.mentioned a (omega (arith, low, start)) (omega (arith, high, next2, next3))) [ inl z ↦ absurd z | inr k ↦ k ];
    }

map_constant : {X : Type 0} (b : Bool) (xs : List X) → map (λ x. b) xs ≡ replicate (length xs) b
map_constant b [] = refl
map_constant b (x ∷ xs) = ap (λ l. b ∷ l) (map_constant b xs)

pub of_document : (document : Document) (m : Maker) (classes : List (List ℕ)) (axioms : List Axiom) → classes ≡ document.classes → axioms ≡ document.axioms → IsMadeOf (length classes) axioms m → IsMadeOf (length document.classes) document.axioms m
of_document document m classes axioms c_is a_is h = subst (λ l. IsMadeOf (length l) document.axioms m) c_is (subst (λ l. IsMadeOf (length classes) l m) a_is h)

pub numbers_of : (document : Document) (classes : List (List ℕ)) (axioms : List Axiom) → classes ≡ document.classes → axioms ≡ document.axioms → (roles : ℕ) × (list_all (has_numbers_below (length classes) roles) axioms ≡ true)
numbers_of document classes axioms c_is a_is = (
  length document.roles,
  ap (λ l. list_all (has_numbers_below (length classes) (length document.roles)) l) a_is ∙ ap (λ (l : List (List ℕ)). list_all (has_numbers_below (length l) (length document.roles)) document.axioms) c_is ∙ document.numbered,
)

module _ (document : Document) (m : Maker) (by : IsMadeOf (length document.classes) document.axioms m) where
  numbers : AllWithin m.next (length document.roles) (implies [] (0 ∷ []) ∷ implies (1 ∷ []) [] ∷ by.axs)
  numbers =
      let classes = length document.classes in
      let two : 1 < length document.classes = two_long document.classes _ _ document.reserved in
      let atoms = by.atoms in
      let zero_low : 0 < m.next = omega (arith, two, atoms) in
      let one_low : 1 < m.next = omega (arith, two, atoms) in
      let fresh_below : (a : ℕ) (k : Label) → IsFresh classes by.labels a k → a < m.next = λ a k f. (let is = f.1 in let below = f.2 in omega (arith, is, below, atoms)) in
      add_within m.next (length document.roles) (implies [] (0 ∷ [])) (implies (1 ∷ []) [] ∷ by.axs) (implies_within m.next (length document.roles) [] (0 ∷ []) (none_below m.next (length document.roles)) (one_below m.next (length document.roles) 0 zero_low))
      (add_within m.next (length document.roles) (implies (1 ∷ []) []) by.axs (implies_within m.next (length document.roles) (1 ∷ []) [] (one_below m.next (length document.roles) 1 one_low) (none_below m.next (length document.roles)))
      (from_within m.next (length document.roles) classes (IsFresh classes by.labels) fresh_below (omega (arith, atoms)) (omega (arith, two)) 0 document.axioms by.axs by.gives document.numbered))

  pub n1_in : list_all (has_atoms_below m.next) m.n1.items ≡ true
  n1_in = all_by_member (has_atoms_below m.next) m.n1.items (λ c h. numbers (n1 c) ((by.have (n1 c)).0 h))

  pub n2_in : (roles : ℕ) → roles ≡ length document.roles → list_all (is_triple_below m.next roles) m.n2.items ≡ true
  n2_in roles is = ap (λ r. list_all (is_triple_below m.next r) m.n2.items) is ∙ all_by_member (is_triple_below m.next (length document.roles)) m.n2.items (λ t h. numbers (n2 t) ((by.have (n2 t)).0 h))

  pub n3_in : (roles : ℕ) → roles ≡ length document.roles → list_all (is_triple_below m.next roles) m.n3.items ≡ true
  n3_in roles is = ap (λ r. list_all (is_triple_below m.next r) m.n3.items) is ∙ all_by_member (is_triple_below m.next (length document.roles)) m.n3.items (λ t h. numbers (n3 t) ((by.have (n3 t)).0 h))

  pub n4_in : (roles : ℕ) → roles ≡ length document.roles → list_all (is_triple_below m.next roles) m.n4.items ≡ true
  n4_in roles is = ap (λ r. list_all (is_triple_below m.next r) m.n4.items) is ∙ all_by_member (is_triple_below m.next (length document.roles)) m.n4.items (λ t h. numbers (n4 t) ((by.have (n4 t)).0 h))

  pub n5_in : (roles : ℕ) → roles ≡ length document.roles → list_all (has_roles_below roles) m.n5.items ≡ true
  n5_in roles is = ap (λ r. list_all (has_roles_below r) m.n5.items) is ∙ all_by_member (has_roles_below (length document.roles)) m.n5.items (λ p h. numbers (n5 p) ((by.have (n5 p)).0 h))

  module _ (n : Normal) (e1 : n.n1 ≡ m.n1.items) (e2 : n.n2 ≡ m.n2.items) (e3 : n.n3 ≡ m.n3.items) (e4 : n.n4 ≡ m.n4.items) (e5 : n.n5 ≡ m.n5.items) where
    same_axioms : (a : NormalAxiom) → HasNormal n a ↔ HasNow m a
    same_axioms (n1 c) = (subst (OneOf c) e1, subst (OneOf c) (sym e1))
    same_axioms (n2 t) = (subst (OneOf t) e2, subst (OneOf t) (sym e2))
    same_axioms (n3 t) = (subst (OneOf t) e3, subst (OneOf t) (sym e3))
    same_axioms (n4 t) = (subst (OneOf t) e4, subst (OneOf t) (sym e4))
    same_axioms (n5 p) = (subst (OneOf p) e5, subst (OneOf p) (sym e5))

    pub is_normal_form : n.atoms ≡ m.next → n.roles ≡ length document.roles → n.named ≡ replicate (length document.classes) true ++ replicate (m.next - length document.classes) false → IsStructuralNormalForm document n
    is_normal_form atoms_is roles_is named_is =
        let atoms = by.atoms in
        let fresh : m.next - length document.classes ≡ length by.labels = omega (arith, atoms) in
        let have : (a : NormalAxiom) → HasNormal n a ↔ OneOf a (implies [] (0 ∷ []) ∷ implies (1 ∷ []) [] ∷ by.axs) = λ a. (λ h. (by.have a).0 ((same_axioms a).0 h), λ k. (same_axioms a).1 ((by.have a).1 k)) in
        record {
          labels = by.labels;
          axs = by.axs;
          gives = by.gives;
          atoms = atoms_is ∙ by.atoms;
          named = named_is ∙ ap (λ k. replicate (length document.classes) true ++ replicate k false) fresh
              ∙ ap (λ l. l ++ replicate (length by.labels) false) (sym (map_constant true document.classes)) ∙ ap (λ l. map (λ c. true) document.classes ++ l) (sym (map_constant false by.labels));
          roles = roles_is;
          have = have;
          no_other = λ a low high. (let w = by.mentioned a low (omega (arith, high, atoms_is)) in (w.0, (have w.0).1 (inr (inr w.1)), w.2));
          one_rest = λ a b x e f g. by.paired a x e f ∙ sym (by.paired b x e g);
        }
