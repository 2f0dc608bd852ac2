-- What the structural normal form entails, their document entails.
use Rattle.std.proofs.Common.{◌≡◌, ◌==◌, ℕ, zero, suc, ◌-◌, ◌<◌, ◌↔◌, IsTrue, Bool, true, false, List, [], ◌∷◌, length, map, get_or, refl, sym, ap, subst, ◌∙◌, inl, inr, arith}
use Rattle.std.specs.List.{All, list_any}
use Rattle.std.proofs.lemmas.Bool.{cases_lt, false≢true, eqb-true, eq-eqb}
use Rattle.std.proofs.lemmas.List.{get_or_append_left, get_or-append_right, length-map, get_or-map}
use Rattle.cd_base.specs.Keys.{is_named}
use Rattle.cd_base.specs.Lists.{OneOf}
use Rattle.cd_base.specs.declared.answer.Answer.{Answer}
use Rattle.cd_base.specs.declared.answer.Answer.TheVariants.{Unsatisfiable, Of}
use Rattle.cd_base.specs.declared.normal.Normal.{Normal}
use Rattle.cd_base.proofs.Members.{all_from_member, any_member, any_by_member}
use Rattle.cd_actor.specs.Cells.{At}
use Rattle.cd_model.specs.Exactness.{NoneIn, AllIn}
use Rattle.cd_meaning.specs.Answer.{Decides}
use Rattle.cd_meaning.specs.Entailment.{Entails}
use Rattle.cd_meaning.specs.Membership.{member}
use Rattle.cd_meaning.specs.MembershipTable.{member-Name}
use Rattle.cd_meaning.specs.declared.document.Document.{Document}
use Rattle.cd_meaning.specs.declared.expression.Expr.TheVariants.{Name}
use Rattle.cd_normal.specs.NormalForm.{IsStructuralNormalForm}
use Rattle.cd_normal.specs.Represents.{Label}
use Rattle.cd_normal.proofs.FitsAxioms.{extends}
use Rattle.cd_normal.proofs.RestrictAxioms.{restricts}
use Rattle.cd_taxonomy.specs.Relation.{is_superclass, relation, HasClassesBelow}
use Rattle.cd_saturation.specs.Answers.{AreAnswers}
use Rattle.cd_saturation.specs.Decided.{IsDecided}
use Rattle.cd_taxonomy.proofs.Decided.{subsumption}

module _ (document : Document) (n : Normal) (m : IsStructuralNormalForm document n) where
  abbrev classes : ℕ
  classes = length document.classes

  -- the classes are the named atoms
  pub class_is_named : (a : ℕ) → a < classes → is_named n a ≡ true
  class_is_named a lt =
      let trues = map (λ c. true) document.classes in
      let l : length trues ≡ classes = length-map document.classes (λ c. true) in
      ap (λ (l : List Bool). get_or l a false) m.named
      ∙ (get_or_append_left trues (map (λ k. false) m.labels) false a (omega arith)
      ∙ get_or-map (λ c. true) document.classes a [] false lt)

  never_true : (labels : List Label) (k : ℕ) → get_or (map (λ (x : Label). false) labels) k false ≡ false
  never_true [] k = refl
  never_true (x ∷ labels) zero = refl
  never_true (x ∷ labels) (suc k) = never_true labels k

  pub named_is_class : (a : ℕ) → is_named n a ≡ true → a < classes
  named_is_class a h = elim (cases_lt a classes) [
    | inl lt ↦ lt
    | inr ge ↦ (
        let trues = map (λ c. true) document.classes in
        let l : length trues ≡ classes = length-map document.classes (λ c. true) in
        let e : is_named n a ≡ false = ap (λ (l : List Bool). get_or l a false) m.named
        ∙ (get_or-append_right trues (map (λ k. false) m.labels) classes a false l ge ∙ never_true m.labels (a - classes)) in
        absurd (false≢true (sym e ∙ h)))
  ]

  -- what the document entails holds in every model of the normal axioms
  entailed_all : (a b : ℕ) → a < classes → b < classes → Entails document.axioms a b → AllIn n a b
  entailed_all a b la lb h i model x lt isin =
      let r = restricts document n i m model in
      let ma : member i (Name a) x ≡ true = member-Name i x a ∙ (sym (r.1 a x la lt) ∙ isin) in
      r.1 b x lb lt ∙ (sym (member-Name i x b) ∙ h i r.0 x lt ma)

  -- and what holds in every such model is entailed
  all_entailed : (a b : ℕ) → a < classes → b < classes → AllIn n a b → Entails document.axioms a b
  all_entailed a b la lb h i model x lt ma =
      let e = extends document n i m model in
      let l : x < e.made.size = subst (λ z. x < z) (sym e.size) lt in
      let d = h e.made e.model x l (e.classes a x la lt ∙ (sym (member-Name i x a) ∙ ma)) in
      member-Name i x b ∙ (sym (e.classes b x lb lt) ∙ d)

  none_entailed : (a b : ℕ) → a < classes → NoneIn n a → Entails document.axioms a b
  none_entailed a b la none i model x lt ma =
      let e = extends document n i m model in
      let l : x < e.made.size = subst (λ z. x < z) (sym e.size) lt in
      absurd (none e.made e.model x l (e.classes a x la lt ∙ (sym (member-Name i x a) ∙ ma)))

  module _ (above : List Answer) (d : IsDecided n classes above []) where
    member_from : (l : List ℕ) (b : ℕ) → list_any (λ (atom : ℕ). atom == b) l ≡ true → OneOf b l
    member_from l b h =
        let r = any_member (λ (atom : ℕ). atom == b) l h in
        subst (λ z. OneOf z l) (eqb-true r.0 b r.2) r.1

    from_member : (l : List ℕ) (b : ℕ) → OneOf b l → list_any (λ (atom : ℕ). atom == b) l ≡ true
    from_member l b h = any_by_member (λ (atom : ℕ). atom == b) l b h (eq-eqb b b refl)

    in_answer : (a : ℕ) (atoms : List ℕ) (b : ℕ) → At above a (Of atoms) → is_named n b ≡ true → AllIn n a b → OneOf b atoms
    in_answer a atoms b at named all = elim (d.every a atoms b at named all) [ inl m ↦ m | inr g ↦ absurd g.1 ]

    -- where nothing is open, the answer of a class says what the document entails of it
    pub answer_decides : (a : ℕ) → a < classes → (answer : Answer) → At above a answer → (b : ℕ) → b < classes → IsTrue (is_superclass answer b) ↔ Entails document.axioms a b
    answer_decides a la Unsatisfiable at b lb = (λ h. none_entailed a b la (d.none a at), λ h. refl)
    answer_decides a la (Of atoms) at b lb = (
      λ h. all_entailed a b la lb (d.only a atoms b at (member_from atoms b h)).1,
      λ h. from_member atoms b (in_answer a atoms b at (class_is_named b lb) (entailed_all a b la lb h)),
    )

    pub answer_within : (a : ℕ) (answer : Answer) → At above a answer → HasClassesBelow classes answer
    answer_within a Unsatisfiable at = tt
    answer_within a (Of atoms) at = all_from_member (λ (atom : ℕ). atom < classes) atoms (λ b h. named_is_class b (d.only a atoms b at h).0)

pub are_answers : (document : Document) (above : List Answer) → Decides document (relation above) → length above ≡ length document.classes
    → All (HasClassesBelow (length document.classes)) above → AreAnswers document above
are_answers document above decided each all = record { each = each; within = all; subsumption = subsumption document (relation above) decided; decided = decided }
