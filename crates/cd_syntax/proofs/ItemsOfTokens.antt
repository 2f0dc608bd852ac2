-- What is wanted of tokens, and its lines, as the parser wants it of items.
use Rattle.std.proofs.Common.{◌≡◌, ◌⊎◌, ℕ, List, [], ◌∷◌, ◌++◌, map, refl, sym, ap, subst, ◌∙◌, inl, inr}
use Rattle.std.specs.Prelude.{Some, codes}
use Rattle.std.proofs.lemmas.Option.{some_pair_parts}
use Rattle.cd_meaning.specs.declared.expression.Axiom.{Axiom}
use Rattle.cd_meaning.specs.declared.expression.Axiom.TheVariants.{SubClass, SameClasses, Disjoint, SubRole, SameRoles, Domain, Range}
use Rattle.cd_meaning.specs.declared.expression.Expr.{Expr}
use Rattle.cd_meaning.specs.declared.expression.Expr.TheVariants.{Meet, Join, Minus, SomeOf, AllOf}
use Rattle.cd_lex.specs.declared.token.Kind.{Kind}
use Rattle.cd_lex.specs.declared.token.Kind.TheVariants.{Word, Short, FullIri}
use Rattle.cd_syntax.specs.declared.item.Item.{Item}
use Rattle.cd_syntax.specs.declared.known.Known.{Known}
use Rattle.cd_syntax.specs.declared.words.AxiomForm.{AxiomForm}
use Rattle.cd_syntax.specs.declared.words.AxiomForm.TheVariants.{SubClassOf, EquivalentClasses, DisjointClasses, SubObjectPropertyOf, EquivalentObjectProperties, ObjectPropertyDomain, ObjectPropertyRange}
use Rattle.cd_syntax.specs.declared.words.ExprForm.{ExprForm}
use Rattle.cd_syntax.specs.declared.words.ExprForm.TheVariants.{ObjectIntersectionOf, ObjectUnionOf, ObjectComplementOf, ObjectSomeValuesFrom, ObjectAllValuesFrom}
use Rattle.cd_syntax.specs.declared.words.Form.{Form}
use Rattle.cd_syntax.specs.declared.words.Keyword.{Keyword}
use Rattle.cd_syntax.specs.Grammar.{Wanted, Exact, AnyWord, AnyIri, Subject, PrefixIri, ClassOf, RoleOf, ClosingOf, Text, OntologyIri, Annotations, Axioms, DeclarationIn, AssertionIn, AnnotationAxiomIn, AxiomIn, AnnotationIn, Value, ExprOf, Means, Stands, other_entities, annotation_axioms, axiom_form, IsForm}
use Rattle.cd_syntax.proofs.ItemGrammar.{Wanted as ItemWanted, Means as ItemMeans, Stands as ItemStands, operands}
use Rattle.cd_syntax.specs.Items.{item_of}
use Rattle.cd_syntax.specs.Operands.{axiom_of, expression_of}
use Rattle.cd_syntax.specs.Words.{key_of}
use Rattle.cd_syntax.proofs.Keywords.{IsOneWordOf, one_of, axiom_word, expr_word, entity_key, annotation_axiom_key, says_key, only_word}

-- ---- what is wanted

-- the form of an axiom
abbrev pub form_of : Axiom → AxiomForm
form_of (SubClass c d) = SubClassOf
form_of (SameClasses cs) = EquivalentClasses
form_of (Disjoint cs) = DisjointClasses
form_of (Axiom.DisjointUnion a cs) = AxiomForm.DisjointUnion
form_of (SubRole r s) = SubObjectPropertyOf
form_of (SameRoles rs) = EquivalentObjectProperties
form_of (Domain r c) = ObjectPropertyDomain
form_of (Range r c) = ObjectPropertyRange

-- the key of each of the words
abbrev pub any_key : List (List ℕ) → Keyword
any_key [] = Keyword.Other
any_key (w ∷ words) = key_of w

-- the same is wanted of items
abbrev pub item_wanted : Wanted → ItemWanted
item_wanted (Exact kind) = ItemWanted.Exact (item_of kind)
item_wanted (AnyWord words) = ItemWanted.Exact (Item.Word (any_key words))
item_wanted AnyIri = ItemWanted.AnyIri
item_wanted Subject = ItemWanted.Subject
item_wanted (PrefixIri p) = ItemWanted.PrefixIri p
item_wanted (ClassOf c) = ItemWanted.ClassOf c
item_wanted (RoleOf r) = ItemWanted.RoleOf r
item_wanted (ClosingOf a) = ItemWanted.ClosingOf a
item_wanted Text = ItemWanted.Text
item_wanted OntologyIri = ItemWanted.OntologyIri
item_wanted Annotations = ItemWanted.Annotations
item_wanted Axioms = ItemWanted.Axioms
item_wanted DeclarationIn = ItemWanted.DeclarationIn
item_wanted AssertionIn = ItemWanted.AssertionIn
item_wanted AnnotationAxiomIn = ItemWanted.AnnotationAxiomIn
item_wanted (AxiomIn a) = ItemWanted.AxiomIn (form_of a) a
item_wanted (AnnotationIn n) = ItemWanted.AnnotationIn n
item_wanted Value = ItemWanted.Value
item_wanted (ExprOf n e) = ItemWanted.ExprOf n e

-- no other word has the key of this one
abbrev pub HasOwnKey : List ℕ → Type 0
HasOwnKey w = (v : List ℕ) → key_of v ≡ key_of w → v ≡ w

-- it may be wanted with more behind it
abbrev pub Fit : Wanted → Type 0
Fit (Exact (Word w)) = HasOwnKey w
Fit (AnyWord words) = (words ≡ other_entities) ⊎ (words ≡ annotation_axioms)
Fit Text = ⊥
Fit OntologyIri = ⊥
Fit Annotations = ⊥
Fit Axioms = ⊥
Fit other = Unit {0}

-- it is wanted up to the end of the text
abbrev pub IsLast : Wanted → Type 0
IsLast Text = Unit {0}
IsLast OntologyIri = Unit {0}
IsLast Annotations = Unit {0}
IsLast Axioms = Unit {0}
IsLast other = ⊥

abbrev pub AllFit : List Wanted → Type 0
AllFit [] = Unit {0}
AllFit (w ∷ wanted) = Fit w × AllFit wanted

-- the same is wanted of tokens and of items, whose last is the end of the text
abbrev pub Agree : List Wanted → List ItemWanted → Type 0
Agree [] items = items ≡ ItemWanted.Exact Item.End ∷ []
Agree (w ∷ wanted) items =
    (IsLast w × (wanted ≡ []) × (items ≡ item_wanted w ∷ [])) ⊎ (Fit w × (rest : List ItemWanted) × (items ≡ item_wanted w ∷ rest) × Agree wanted rest)

-- more may stand before
pub agree-append : (front wanted : List Wanted) (items : List ItemWanted) → AllFit front → Agree wanted items → Agree (front ++ wanted) (map item_wanted front ++ items)
agree-append [] wanted items fits agree = agree
agree-append (w ∷ front) wanted items fits agree = inr (fits.0, map item_wanted front ++ items, refl, agree-append front wanted items fits.1 agree)

pub agree-last : (front : List Wanted) (w : Wanted) → AllFit front → IsLast w → Agree (front ++ w ∷ []) (map item_wanted front ++ item_wanted w ∷ [])
agree-last front w fits last = agree-append front (w ∷ []) (item_wanted w ∷ []) fits (inl (last, refl, refl))

-- ---- words

pub annotation_own : HasOwnKey (codes "Annotation")
annotation_own v h = only_word (codes "Annotation") v (says_key v Keyword.Annotation h)

pub prefix_own : HasOwnKey (codes "Prefix")
prefix_own v h = only_word (codes "Prefix") v (says_key v Keyword.Prefix h)

pub ontology_own : HasOwnKey (codes "Ontology")
ontology_own v h = only_word (codes "Ontology") v (says_key v Keyword.Ontology h)

pub declaration_own : HasOwnKey (codes "Declaration")
declaration_own v h = only_word (codes "Declaration") v (says_key v Keyword.Declaration h)

pub class_own : HasOwnKey (codes "Class")
class_own v h = only_word (codes "Class") v (says_key v Keyword.Class h)

pub assertion_own : HasOwnKey (codes "AnnotationAssertion")
assertion_own v h = only_word (codes "AnnotationAssertion") v (says_key v Keyword.AnnotationAssertion h)

-- ---- one token

pub means_to : (known : Known) (kind : Kind) (iri : List ℕ) → Means known kind iri → ItemMeans known (item_of kind) iri
means_to known (FullIri i) iri m = m
means_to known (Short p l) iri m = m
means_to known kind iri m = absurd m

-- one of the words has their key
any_key-is : (words : List (List ℕ)) (w : List ℕ) → Fit (AnyWord words) → IsOneWordOf words w → key_of w ≡ any_key words
any_key-is words w (inl are) is = entity_key w (subst (λ (ws : List (List ℕ)). IsOneWordOf ws w) are is) ∙ ap any_key (sym are)
any_key-is words w (inr are) is = annotation_axiom_key w (subst (λ (ws : List (List ℕ)). IsOneWordOf ws w) are is) ∙ ap any_key (sym are)

-- the item of a token that stands at its place stands there
pub stands_to : (known : Known) (w : Wanted) (kind : Kind) (after : Known) → Fit w → Stands known w kind after → ItemStands known (item_wanted w) (item_of kind) after
stands_to known (Exact k) kind after fit (is, same) = (ap item_of is, same)
stands_to known (AnyWord words) kind after fit (v, is, contains, same) =
    (ap item_of is ∙ ap Item.Word (any_key-is words v fit (one_of words v contains)), same)
stands_to known AnyIri kind after fit ((iri, m), same) = ((iri, means_to known kind iri m), same)
stands_to known Subject kind after fit (inl (iri, m), same) = (inl (iri, means_to known kind iri m), same)
stands_to known Subject kind after fit (inr (label, is, named), same) = (inr (label, ap item_of is, named), same)
stands_to known (PrefixIri p) kind after fit (i, is, which, same) = (i, ap item_of is, which, same)
stands_to known (ClassOf c) kind after fit (i, m, numbered, same) = (i, means_to known kind i m, numbered, same)
stands_to known (RoleOf r) kind after fit (i, m, no_top, no_bottom, numbered, same) = (i, means_to known kind i m, no_top, no_bottom, numbered, same)
stands_to known (ClosingOf a) kind after fit (is, same) = (ap item_of is, same)
stands_to known w kind after fit stands = absurd stands

-- no token stands where lines are wanted up to the end
pub no_last : (known : Known) (w : Wanted) (kind : Kind) (after : Known) → IsLast w → Stands known w kind after → ⊥
no_last known Text kind after last stands = stands
no_last known OntologyIri kind after last stands = stands
no_last known Annotations kind after last stands = stands
no_last known Axioms kind after last stands = stands
no_last known w kind after last stands = last

-- ---- operands

expressions_to : (n : ℕ) (es : List Expr) → map item_wanted (map (ExprOf n) es) ≡ map (ItemWanted.ExprOf n) es
expressions_to n [] = refl
expressions_to n (e ∷ es) = ap (λ (ws : List ItemWanted). ItemWanted.ExprOf n e ∷ ws) (expressions_to n es)

roles_to : (n : ℕ) (rs : List ℕ) → map item_wanted (map RoleOf rs) ≡ operands (Form.Axiom EquivalentObjectProperties) n rs []
roles_to n [] = refl
roles_to n (r ∷ rs) = ap (λ (ws : List ItemWanted). ItemWanted.RoleOf r ∷ ws) (roles_to n rs)

expressions_fit : (n : ℕ) (es : List Expr) → AllFit (map (ExprOf n) es)
expressions_fit n [] = tt
expressions_fit n (e ∷ es) = (tt, expressions_fit n es)

roles_fit : (rs : List ℕ) → AllFit (map RoleOf rs)
roles_fit [] = tt
roles_fit (r ∷ rs) = (tt, roles_fit rs)

-- the word of an axiom has its key
key_of_axiom : (form : AxiomForm) → key_of (axiom_word form) ≡ Keyword.Axiom form
key_of_axiom SubClassOf = refl
key_of_axiom EquivalentClasses = refl
key_of_axiom DisjointClasses = refl
key_of_axiom AxiomForm.DisjointUnion = refl
key_of_axiom SubObjectPropertyOf = refl
key_of_axiom EquivalentObjectProperties = refl
key_of_axiom ObjectPropertyDomain = refl
key_of_axiom ObjectPropertyRange = refl

axiom_own : (form : AxiomForm) → HasOwnKey (axiom_word form)
axiom_own form v h = only_word (axiom_word form) v (says_key v (Keyword.Axiom form) (h ∙ key_of_axiom form))

-- the word of an expression has its key
key_of_expr : (form : ExprForm) → key_of (expr_word form) ≡ Keyword.Expr form
key_of_expr ObjectIntersectionOf = refl
key_of_expr ObjectUnionOf = refl
key_of_expr ObjectComplementOf = refl
key_of_expr ObjectSomeValuesFrom = refl
key_of_expr ObjectAllValuesFrom = refl

expr_own : (form : ExprForm) → HasOwnKey (expr_word form)
expr_own form v h = only_word (expr_word form) v (says_key v (Keyword.Expr form) (h ∙ key_of_expr form))

-- ---- axioms

-- the word and the operands of tokens are those of the form, which make the axiom
pub record IsAxiomForm (n : ℕ) (form : AxiomForm) (heads : List ℕ) (exprs : List Expr) (a : Axiom) (word : List ℕ) (inner : List Wanted) : Type 0 where
  pub form_is : form ≡ form_of a
  pub makes : axiom_of form heads exprs ≡ Some a
  pub written : axiom_form n a ≡ Some (word, inner)
  pub same : map item_wanted inner ≡ operands (Form.Axiom form) n heads exprs
  pub fits : AllFit inner
  pub key : key_of word ≡ Keyword.Axiom form
  pub own : HasOwnKey word

abbrev HasTokens : ℕ → AxiomForm → List ℕ → List Expr → Axiom → Type 0
HasTokens n form heads exprs a = (word : List ℕ) × (inner : List Wanted) × IsAxiomForm n form heads exprs a word inner

axiom_at : (n : ℕ) (form : AxiomForm) (heads : List ℕ) (exprs : List Expr) (b a : Axiom) (inner : List Wanted) → form ≡ form_of b → axiom_of form heads exprs ≡ Some b
    → axiom_form n b ≡ Some (axiom_word form, inner) → map item_wanted inner ≡ operands (Form.Axiom form) n heads exprs → AllFit inner → b ≡ a
    → HasTokens n form heads exprs a
axiom_at n form heads exprs b a inner form_is makes written same fits e =
    subst (HasTokens n form heads exprs) e (
      axiom_word form,
      inner,
      record { form_is = form_is; makes = makes; written = written; same = same; fits = fits; key = key_of_axiom form; own = axiom_own form },
    )

-- operands of items that make an axiom are those of its tokens
pub axiom_back : (n : ℕ) (form : AxiomForm) (heads : List ℕ) (exprs : List Expr) (a : Axiom) → axiom_of form heads exprs ≡ Some a → HasTokens n form heads exprs a
axiom_back n SubClassOf [] (c ∷ d ∷ []) a h =
    axiom_at n SubClassOf [] (c ∷ d ∷ []) (SubClass c d) a (ExprOf n c ∷ ExprOf n d ∷ []) refl refl refl refl (tt, (tt, tt)) cc
axiom_back n EquivalentClasses [] (c ∷ d ∷ more) a h =
    axiom_at n EquivalentClasses [] (c ∷ d ∷ more) (SameClasses (c ∷ d ∷ more)) a (map (ExprOf n) (c ∷ d ∷ more)) refl refl refl
    (expressions_to n (c ∷ d ∷ more)) (expressions_fit n (c ∷ d ∷ more)) cc
axiom_back n DisjointClasses [] (c ∷ d ∷ more) a h =
    axiom_at n DisjointClasses [] (c ∷ d ∷ more) (Disjoint (c ∷ d ∷ more)) a (map (ExprOf n) (c ∷ d ∷ more)) refl refl refl
    (expressions_to n (c ∷ d ∷ more)) (expressions_fit n (c ∷ d ∷ more)) cc
axiom_back n AxiomForm.DisjointUnion (u ∷ []) (c ∷ d ∷ more) a h =
    axiom_at n AxiomForm.DisjointUnion (u ∷ []) (c ∷ d ∷ more) (Axiom.DisjointUnion u (c ∷ d ∷ more)) a (ClassOf u ∷ map (ExprOf n) (c ∷ d ∷ more)) refl refl refl
    (ap (λ (ws : List ItemWanted). ItemWanted.ClassOf u ∷ ws) (expressions_to n (c ∷ d ∷ more))) (tt, expressions_fit n (c ∷ d ∷ more)) cc
axiom_back n SubObjectPropertyOf (r ∷ s ∷ []) [] a h =
    axiom_at n SubObjectPropertyOf (r ∷ s ∷ []) [] (SubRole r s) a (RoleOf r ∷ RoleOf s ∷ []) refl refl refl refl (tt, (tt, tt)) cc
axiom_back n EquivalentObjectProperties (r ∷ s ∷ more) [] a h =
    axiom_at n EquivalentObjectProperties (r ∷ s ∷ more) [] (SameRoles (r ∷ s ∷ more)) a (map RoleOf (r ∷ s ∷ more)) refl refl refl
    (roles_to n (r ∷ s ∷ more)) (roles_fit (r ∷ s ∷ more)) cc
axiom_back n ObjectPropertyDomain (r ∷ []) (c ∷ []) a h =
    axiom_at n ObjectPropertyDomain (r ∷ []) (c ∷ []) (Domain r c) a (RoleOf r ∷ ExprOf n c ∷ []) refl refl refl refl (tt, (tt, tt)) cc
axiom_back n ObjectPropertyRange (r ∷ []) (c ∷ []) a h =
    axiom_at n ObjectPropertyRange (r ∷ []) (c ∷ []) (Range r c) a (RoleOf r ∷ ExprOf n c ∷ []) refl refl refl refl (tt, (tt, tt)) cc
axiom_back n form heads exprs a h = absurd cc

axiom_read : (n : ℕ) (form : AxiomForm) (heads : List ℕ) (exprs : List Expr) (a : Axiom) (word word' : List ℕ) (inner inner' : List Wanted)
    → IsAxiomForm n form heads exprs a word inner → axiom_form n a ≡ Some (word', inner') → IsAxiomForm n form heads exprs a word' inner'
axiom_read n form heads exprs a word word' inner inner' r h =
    let same = some_pair_parts word word' inner inner' (sym r.written ∙ h) in
    subst (λ (v : List ℕ). IsAxiomForm n form heads exprs a v inner') same.0 (subst (λ (ws : List Wanted). IsAxiomForm n form heads exprs a word ws) same.1 r)

axiom_taken : (n : ℕ) (a : Axiom) (heads : List ℕ) (exprs : List Expr) (word : List ℕ) (inner : List Wanted) → axiom_of (form_of a) heads exprs ≡ Some a
    → axiom_form n a ≡ Some (word, inner) → (heads : List ℕ) × (exprs : List Expr) × IsAxiomForm n (form_of a) heads exprs a word inner
axiom_taken n a heads exprs word inner makes h =
    let found = axiom_back n (form_of a) heads exprs a makes in
    (heads, exprs, axiom_read n (form_of a) heads exprs a found.0 word found.1 inner found.2 h)

-- operands of tokens are those of items that make the axiom
pub axiom_to : (n : ℕ) (a : Axiom) (word : List ℕ) (inner : List Wanted) → axiom_form n a ≡ Some (word, inner)
    → (heads : List ℕ) × (exprs : List Expr) × IsAxiomForm n (form_of a) heads exprs a word inner
axiom_to n (SubClass c d) word inner h = axiom_taken n (SubClass c d) [] (c ∷ d ∷ []) word inner refl h
axiom_to n (SameClasses (c ∷ d ∷ more)) word inner h = axiom_taken n (SameClasses (c ∷ d ∷ more)) [] (c ∷ d ∷ more) word inner refl h
axiom_to n (Disjoint (c ∷ d ∷ more)) word inner h = axiom_taken n (Disjoint (c ∷ d ∷ more)) [] (c ∷ d ∷ more) word inner refl h
axiom_to n (Axiom.DisjointUnion u (c ∷ d ∷ more)) word inner h =
    axiom_taken n (Axiom.DisjointUnion u (c ∷ d ∷ more)) (u ∷ []) (c ∷ d ∷ more) word inner refl h
axiom_to n (SubRole r s) word inner h = axiom_taken n (SubRole r s) (r ∷ s ∷ []) [] word inner refl h
axiom_to n (SameRoles (r ∷ s ∷ more)) word inner h = axiom_taken n (SameRoles (r ∷ s ∷ more)) (r ∷ s ∷ more) [] word inner refl h
axiom_to n (Domain r c) word inner h = axiom_taken n (Domain r c) (r ∷ []) (c ∷ []) word inner refl h
axiom_to n (Range r c) word inner h = axiom_taken n (Range r c) (r ∷ []) (c ∷ []) word inner refl h
axiom_to n a word inner h = absurd cc

-- ---- expressions

-- the word and the operands of tokens are those of the form, which make the expression
pub record IsExprForm (n : ℕ) (form : ExprForm) (roles : List ℕ) (exprs : List Expr) (e : Expr) (word : List ℕ) (inner : List Wanted) : Type 0 where
  pub makes : expression_of form roles exprs ≡ Some e
  pub written : IsForm n e word inner
  pub same : map item_wanted inner ≡ operands (Form.Expr form) n roles exprs
  pub fits : AllFit inner
  pub key : key_of word ≡ Keyword.Expr form
  pub own : HasOwnKey word

abbrev HasForm : ℕ → ExprForm → List ℕ → List Expr → Expr → Type 0
HasForm n form roles exprs e = (word : List ℕ) × (inner : List Wanted) × IsExprForm n form roles exprs e word inner

expr_at : (n : ℕ) (form : ExprForm) (roles : List ℕ) (exprs : List Expr) (d e : Expr) (inner : List Wanted) → expression_of form roles exprs ≡ Some d
    → IsForm n d (expr_word form) inner → map item_wanted inner ≡ operands (Form.Expr form) n roles exprs → AllFit inner → d ≡ e → HasForm n form roles exprs e
expr_at n form roles exprs d e inner makes written same fits is =
    subst (HasForm n form roles exprs) is (
      expr_word form,
      inner,
      record { makes = makes; written = written; same = same; fits = fits; key = key_of_expr form; own = expr_own form },
    )

-- operands of items that make an expression are those of its tokens
pub expr_back : (n : ℕ) (form : ExprForm) (roles : List ℕ) (exprs : List Expr) (e : Expr) → expression_of form roles exprs ≡ Some e → HasForm n form roles exprs e
expr_back n ObjectIntersectionOf [] (c ∷ more) e h =
    expr_at n ObjectIntersectionOf [] (c ∷ more) (Meet (c ∷ more)) e (map (ExprOf n) (c ∷ more)) refl (inl (c, more, refl, refl, refl))
    (expressions_to n (c ∷ more)) (expressions_fit n (c ∷ more)) cc
expr_back n ObjectUnionOf [] (c ∷ more) e h =
    expr_at n ObjectUnionOf [] (c ∷ more) (Join (c ∷ more)) e (map (ExprOf n) (c ∷ more)) refl (inr (inl (c, more, refl, refl, refl)))
    (expressions_to n (c ∷ more)) (expressions_fit n (c ∷ more)) cc
expr_back n ObjectComplementOf [] (c ∷ []) e h =
    expr_at n ObjectComplementOf [] (c ∷ []) (Minus c) e (ExprOf n c ∷ []) refl (inr (inr (inl (c, refl, refl, refl)))) refl (tt, tt) cc
expr_back n ObjectSomeValuesFrom (r ∷ []) (c ∷ []) e h =
    expr_at n ObjectSomeValuesFrom (r ∷ []) (c ∷ []) (SomeOf r c) e (RoleOf r ∷ ExprOf n c ∷ []) refl (inr (inr (inr (inl (r, c, refl, refl, refl))))) refl (tt, (tt, tt)) cc
expr_back n ObjectAllValuesFrom (r ∷ []) (c ∷ []) e h =
    expr_at n ObjectAllValuesFrom (r ∷ []) (c ∷ []) (AllOf r c) e (RoleOf r ∷ ExprOf n c ∷ []) refl (inr (inr (inr (inr (r, c, refl, refl, refl))))) refl (tt, (tt, tt)) cc
expr_back n form roles exprs e h = absurd cc

abbrev IsOfForm : ℕ → Expr → List ℕ → List Wanted → Type 0
IsOfForm n e word inner = (form : ExprForm) × (roles : List ℕ) × (exprs : List Expr) × IsExprForm n form roles exprs e word inner

expr_read : (n : ℕ) (form : ExprForm) (roles : List ℕ) (exprs : List Expr) (d e : Expr) (word : List ℕ) (inner inner' : List Wanted) → expression_of form roles exprs ≡ Some d
    → map item_wanted inner ≡ operands (Form.Expr form) n roles exprs → AllFit inner → e ≡ d → word ≡ expr_word form → inner' ≡ inner → IsForm n e word inner'
    → IsOfForm n e word inner'
expr_read n form roles exprs d e word inner inner' makes same fits e_is word_is inner_is written = (
  form,
  roles,
  exprs,
  record {
    makes = makes ∙ ap Some (sym e_is);
    written = written;
    same = ap (map item_wanted) inner_is ∙ same;
    fits = subst AllFit (sym inner_is) fits;
    key = ap key_of word_is ∙ key_of_expr form;
    own = subst HasOwnKey (sym word_is) (expr_own form);
  },
)

-- operands of tokens are those of items that make the expression
pub expr_to : (n : ℕ) (e : Expr) (word : List ℕ) (inner : List Wanted) → IsForm n e word inner → IsOfForm n e word inner
expr_to n e word inner (inl (c, more, e_is, word_is, inner_is)) =
    expr_read n ObjectIntersectionOf [] (c ∷ more) (Meet (c ∷ more)) e word (map (ExprOf n) (c ∷ more)) inner refl (expressions_to n (c ∷ more))
    (expressions_fit n (c ∷ more)) e_is word_is inner_is (inl (c, more, e_is, word_is, inner_is))
expr_to n e word inner (inr (inl (c, more, e_is, word_is, inner_is))) =
    expr_read n ObjectUnionOf [] (c ∷ more) (Join (c ∷ more)) e word (map (ExprOf n) (c ∷ more)) inner refl (expressions_to n (c ∷ more))
    (expressions_fit n (c ∷ more)) e_is word_is inner_is (inr (inl (c, more, e_is, word_is, inner_is)))
expr_to n e word inner (inr (inr (inl (c, e_is, word_is, inner_is)))) =
    expr_read n ObjectComplementOf [] (c ∷ []) (Minus c) e word (ExprOf n c ∷ []) inner refl refl (tt, tt) e_is word_is inner_is (inr (inr (inl (c, e_is, word_is, inner_is))))
expr_to n e word inner (inr (inr (inr (inl (r, c, e_is, word_is, inner_is))))) =
    expr_read n ObjectSomeValuesFrom (r ∷ []) (c ∷ []) (SomeOf r c) e word (RoleOf r ∷ ExprOf n c ∷ []) inner refl refl (tt, (tt, tt)) e_is word_is inner_is
    (inr (inr (inr (inl (r, c, e_is, word_is, inner_is)))))
expr_to n e word inner (inr (inr (inr (inr (r, c, e_is, word_is, inner_is))))) =
    expr_read n ObjectAllValuesFrom (r ∷ []) (c ∷ []) (AllOf r c) e word (RoleOf r ∷ ExprOf n c ∷ []) inner refl refl (tt, (tt, tt)) e_is word_is inner_is
    (inr (inr (inr (inr (r, c, e_is, word_is, inner_is)))))
