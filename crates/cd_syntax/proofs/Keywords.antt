-- The words of the grammar, and the keys by which the parser knows them.
use Rattle.std.proofs.Common.{◌≡◌, ◌⊎◌, ◌<◌, ℕ, zero, suc, Bool, true, false, List, length, [], ◌∷◌, refl, sym, ap, subst, ◌∙◌, inl, inr, arith}
use Rattle.std.specs.Prelude.{Option, Some, None, codes, Contains, if◌then◌else◌, slice_index_or}
use Rattle.std.specs.Str.{bytes_eq}
use Rattle.std.proofs.lemmas.Slice.Eq.{bytes_eq-Decides}
use Rattle.cd_syntax.specs.declared.words.AxiomForm.{AxiomForm}
use Rattle.cd_syntax.specs.declared.words.AxiomForm.TheVariants.{SubClassOf, EquivalentClasses, DisjointClasses, DisjointUnion, SubObjectPropertyOf, EquivalentObjectProperties, ObjectPropertyDomain, ObjectPropertyRange}
use Rattle.cd_syntax.specs.declared.words.ExprForm.{ExprForm}
use Rattle.cd_syntax.specs.declared.words.ExprForm.TheVariants.{ObjectIntersectionOf, ObjectUnionOf, ObjectComplementOf, ObjectSomeValuesFrom, ObjectAllValuesFrom}
use Rattle.cd_syntax.specs.declared.words.Keyword.{Keyword}
use Rattle.cd_syntax.specs.Constructs.{entry, refused_roles, refused_classes, refused_data, first_of, refused_number}
use Rattle.cd_syntax.specs.Grammar.{other_entities, annotation_axioms}
use Rattle.cd_syntax.specs.Words.{axiom_forms, expr_forms, other_words, first_key, key_of}

-- ---- tables

-- it holds of every entry of the table
abbrev pub AllEntries : {V : Type 0} → (List ℕ → V → Type 0) → List (List ℕ × V) → Type 0
AllEntries P [] = Unit {0}
AllEntries P (e ∷ more) = P e.0 e.1 × AllEntries P more

found_at : {V : Type 0} (P : List ℕ → V → Type 0) (e : List ℕ × V) (rest : Option V) (w : List ℕ) (x : V) (same : Bool) → bytes_eq w e.0 ≡ same → P e.0 e.1
    → (rest ≡ Some x → P w x) → (if same then Some e.1 else rest) ≡ Some x → P w x
found_at {V} P e rest w x true is here later h =
    let k : e.1 ≡ x = cc in
    subst (λ (y : V). P w y) k (subst (λ (v : List ℕ). P v e.1) (sym ((bytes_eq-Decides w e.0).0 is)) here)
found_at P e rest w x false is here later h = later h

-- what the table has for a word
pub found : {V : Type 0} (P : List ℕ → V → Type 0) (table : List (List ℕ × V)) (w : List ℕ) (x : V) → AllEntries P table → entry table w ≡ Some x → P w x
found P [] w x all h = absurd cc
found P (e ∷ more) w x all h = found_at P e (entry more w) w x (bytes_eq w e.0) refl all.0 (found P more w x all.1) h

-- ---- words

-- the word is one of these
abbrev pub IsOneWordOf : List (List ℕ) → List ℕ → Type 0
IsOneWordOf [] w = ⊥
IsOneWordOf (v ∷ more) w = (w ≡ v) ⊎ IsOneWordOf more w

contained : (words : List (List ℕ)) (w : List ℕ) (k : ℕ) → k < length words → slice_index_or words k w ≡ w → IsOneWordOf words w
contained [] w k less is = absurd (omega arith)
contained (v ∷ words) w zero less is = inl (sym is)
contained (v ∷ words) w (suc k) less is = inr (contained words w k (omega arith) is)

pub one_of : (words : List (List ℕ)) (w : List ℕ) → Contains words w → IsOneWordOf words w
one_of words w (k, less, is) = contained words w k less is

pub contains_of : (words : List (List ℕ)) (w : List ℕ) → IsOneWordOf words w → Contains words w
contains_of [] w h = absurd h
contains_of (v ∷ words) w (inl is) = (0, omega arith, sym is)
contains_of (v ∷ words) w (inr h) = let (k, less, is) = contains_of words w h in (suc k, omega arith, is)

pub only_word : (v w : List ℕ) → IsOneWordOf (v ∷ []) w → w ≡ v
only_word v w (inl is) = is
only_word v w (inr none) = absurd none

-- the word of an axiom
abbrev pub axiom_word : AxiomForm → List ℕ
axiom_word SubClassOf = codes "SubClassOf"
axiom_word EquivalentClasses = codes "EquivalentClasses"
axiom_word DisjointClasses = codes "DisjointClasses"
axiom_word DisjointUnion = codes "DisjointUnion"
axiom_word SubObjectPropertyOf = codes "SubObjectPropertyOf"
axiom_word EquivalentObjectProperties = codes "EquivalentObjectProperties"
axiom_word ObjectPropertyDomain = codes "ObjectPropertyDomain"
axiom_word ObjectPropertyRange = codes "ObjectPropertyRange"

-- the word of an expression
abbrev pub expr_word : ExprForm → List ℕ
expr_word ObjectIntersectionOf = codes "ObjectIntersectionOf"
expr_word ObjectUnionOf = codes "ObjectUnionOf"
expr_word ObjectComplementOf = codes "ObjectComplementOf"
expr_word ObjectSomeValuesFrom = codes "ObjectSomeValuesFrom"
expr_word ObjectAllValuesFrom = codes "ObjectAllValuesFrom"

-- a word with this key is one of these
abbrev pub words_of : Keyword → List (List ℕ)
words_of Keyword.Prefix = codes "Prefix" ∷ []
words_of Keyword.Ontology = codes "Ontology" ∷ []
words_of Keyword.Annotation = codes "Annotation" ∷ []
words_of Keyword.Declaration = codes "Declaration" ∷ []
words_of Keyword.Class = codes "Class" ∷ []
words_of Keyword.Entity = other_entities
words_of Keyword.AnnotationAssertion = codes "AnnotationAssertion" ∷ []
words_of Keyword.AnnotationAxiom = annotation_axioms
words_of (Keyword.Axiom form) = axiom_word form ∷ []
words_of (Keyword.Expr form) = expr_word form ∷ []
words_of key = []

-- what the key says of its word
abbrev pub Says : Keyword → List ℕ → Type 0
Says (Keyword.Refused n) w = refused_number w ≡ Some n
Says Keyword.Other w = Unit {0}
Says key w = IsOneWordOf (words_of key) w

all_axioms : AllEntries (λ w form. Says (Keyword.Axiom form) w) axiom_forms
all_axioms = (inl refl, (inl refl, (inl refl, (inl refl, (inl refl, (inl refl, (inl refl, (inl refl, tt))))))))

all_expressions : AllEntries (λ w form. Says (Keyword.Expr form) w) expr_forms
all_expressions = (inl refl, (inl refl, (inl refl, (inl refl, (inl refl, tt)))))

all_others : AllEntries (λ w key. Says key w) other_words
all_others = (
  inl refl,
  (inl refl, (inl refl, (inl refl, (inl refl, (inl refl, (inr (inl refl), (inr (inr (inl refl)), (inr (inr (inr (inl refl))), (inr (inr (inr (inr (inl refl)))), (inl refl, (inl refl, (inr (inl refl), (inr (inr (inl refl)), tt))))))))))))),
)

says_by : (w : List ℕ) (a : Option AxiomForm) (b : Option ExprForm) (c : Option Keyword) (d : Option ℕ) → entry axiom_forms w ≡ a → entry expr_forms w ≡ b
    → entry other_words w ≡ c → refused_number w ≡ d → Says (first_key a b c d) w
says_by w (Some form) b c d as_axiom as_expression as_other as_refused = found (λ v f. Says (Keyword.Axiom f) v) axiom_forms w form all_axioms as_axiom
says_by w None (Some form) c d as_axiom as_expression as_other as_refused = found (λ v f. Says (Keyword.Expr f) v) expr_forms w form all_expressions as_expression
says_by w None None (Some key) d as_axiom as_expression as_other as_refused = found (λ v k. Says k v) other_words w key all_others as_other
says_by w None None None (Some n) as_axiom as_expression as_other as_refused = as_refused
says_by w None None None None as_axiom as_expression as_other as_refused = tt

-- what the key of a word says of it
pub says : (w : List ℕ) → Says (key_of w) w
says w = says_by w (entry axiom_forms w) (entry expr_forms w) (entry other_words w) (refused_number w) refl refl refl refl

-- a word by its key
pub says_key : (w : List ℕ) (key : Keyword) → key_of w ≡ key → Says key w
says_key w key h = subst (λ (k : Keyword). Says k w) h (says w)

-- ---- keys

pub entity_key : (w : List ℕ) → IsOneWordOf other_entities w → key_of w ≡ Keyword.Entity
entity_key w (inl is) = ap key_of is
entity_key w (inr (inl is)) = ap key_of is
entity_key w (inr (inr (inl is))) = ap key_of is
entity_key w (inr (inr (inr (inl is)))) = ap key_of is
entity_key w (inr (inr (inr (inr (inl is))))) = ap key_of is
entity_key w (inr (inr (inr (inr (inr none))))) = absurd none

pub annotation_axiom_key : (w : List ℕ) → IsOneWordOf annotation_axioms w → key_of w ≡ Keyword.AnnotationAxiom
annotation_axiom_key w (inl is) = ap key_of is
annotation_axiom_key w (inr (inl is)) = ap key_of is
annotation_axiom_key w (inr (inr (inl is))) = ap key_of is
annotation_axiom_key w (inr (inr (inr none))) = absurd none

-- the word is known as this refused construct
abbrev IsRefusedKey : List ℕ → ℕ → Type 0
IsRefusedKey w n = key_of w ≡ Keyword.Refused n

all_roles : AllEntries IsRefusedKey refused_roles
all_roles = (refl, (refl, (refl, (refl, (refl, (refl, (refl, (refl, (refl, (refl, (refl, (refl, tt))))))))))))

all_classes : AllEntries IsRefusedKey refused_classes
all_classes = (refl, (refl, (refl, (refl, (refl, (refl, (refl, (refl, (refl, (refl, (refl, (refl, tt))))))))))))

all_data : AllEntries IsRefusedKey refused_data
all_data = (refl, (refl, (refl, (refl, (refl, (refl, (refl, (refl, (refl, (refl, (refl, (refl, (refl, (refl, (refl, (refl, (refl, (refl, (refl, (refl, tt))))))))))))))))))))

refused_by : (w : List ℕ) (n : ℕ) (a b c : Option ℕ) → entry refused_roles w ≡ a → entry refused_classes w ≡ b → entry refused_data w ≡ c → first_of a b c ≡ Some n
    → IsRefusedKey w n
refused_by w n (Some m) b c in_roles in_classes in_data h = found IsRefusedKey refused_roles w n all_roles (in_roles ∙ h)
refused_by w n None (Some m) c in_roles in_classes in_data h = found IsRefusedKey refused_classes w n all_classes (in_classes ∙ h)
refused_by w n None None c in_roles in_classes in_data h = found IsRefusedKey refused_data w n all_data (in_data ∙ h)

-- the word of a refused construct is no other word of the grammar
pub refused_key : (w : List ℕ) (n : ℕ) → refused_number w ≡ Some n → key_of w ≡ Keyword.Refused n
refused_key w n h = refused_by w n (entry refused_roles w) (entry refused_classes w) (entry refused_data w) refl refl refl h
