-- The lines of the grammar over tokens are those of the grammar over items.
use Rattle.std.proofs.Common.{◌≡◌, ℕ, zero, suc, List, [], ◌∷◌, ◌++◌, map, refl, sym, ap, subst, ◌∙◌, inl, inr}
use Rattle.std.specs.Prelude.{codes}
use Rattle.std.proofs.lemmas.List.{map-append}
use Rattle.cd_lex.specs.declared.token.Kind.{Kind}
use Rattle.cd_lex.specs.declared.token.Kind.TheVariants.{Word, Short}
use Rattle.cd_syntax.specs.declared.item.Item.{Item}
use Rattle.cd_syntax.specs.declared.words.AxiomForm.{AxiomForm}
use Rattle.cd_syntax.specs.declared.words.Form.{Form}
use Rattle.cd_syntax.specs.declared.words.Keyword.{Keyword}
use Rattle.cd_syntax.specs.Grammar.{Wanted, Exact, AnyWord, AnyIri, Subject, PrefixIri, ClassOf, ClosingOf, Text, OntologyIri, Annotations, Axioms, DeclarationIn, AssertionIn, AnnotationAxiomIn, AxiomIn, AnnotationIn, Value, ExprOf, opened, other_entities, annotation_axioms, IsAnnotated, Line}
use Rattle.cd_syntax.proofs.ItemGrammar.{Wanted as ItemWanted, operands, opened as items_opened, IsAnnotated as IsItemNoted, Line as ItemLine}
use Rattle.cd_syntax.specs.Words.{key_of}
use Rattle.cd_syntax.proofs.ItemsOfTokens.{item_wanted, Fit, IsLast, AllFit, Agree, agree-append, agree-last, annotation_own, prefix_own, ontology_own, declaration_own, class_own, assertion_own, form_of, axiom_to, axiom_back, expr_to, expr_back}

-- ---- annotations

noted_to : (n : ℕ) (w : Wanted) (parts : List Wanted) → IsAnnotated n w parts → IsItemNoted n (item_wanted w) (map item_wanted parts)
noted_to zero w parts l = absurd l
noted_to (suc n) w parts l = ap (map item_wanted) l

noted_fit : (n : ℕ) (w : Wanted) (parts : List Wanted) → Fit w → IsAnnotated n w parts → AllFit parts
noted_fit zero w parts fit l = absurd l
noted_fit (suc n) w parts fit l = subst AllFit (sym l) (annotation_own, (tt, (tt, (fit, tt))))

noted_agree : (n : ℕ) (w : Wanted) (parts : List Wanted) → IsLast w → IsAnnotated n w parts → Agree parts (map item_wanted parts)
noted_agree zero w parts last l = absurd l
noted_agree (suc n) w parts last l =
    subst (λ (ps : List Wanted). Agree ps (map item_wanted ps)) (sym l)
    (agree-last (Exact (Word (codes "Annotation")) ∷ Exact Kind.Opening ∷ AnnotationIn n ∷ []) w (annotation_own, (tt, (tt, tt))) last)

noted_back : (n : ℕ) (w : Wanted) (items : List ItemWanted) → IsItemNoted n (item_wanted w) items → (parts : List Wanted) × IsAnnotated n w parts × (items ≡ map item_wanted parts)
noted_back zero w items l = absurd l
noted_back (suc n) w items l = (opened (codes "Annotation") (AnnotationIn n ∷ w ∷ []), refl, l)

-- ---- lines from tokens to items

all_fit-append : (front more : List Wanted) → AllFit front → AllFit more → AllFit (front ++ more)
all_fit-append [] more h k = k
all_fit-append (w ∷ front) more h k = (h.0, all_fit-append front more h.1 k)

-- operands, and what ends them
with_end : (inner : List Wanted) (w : Wanted) (parts : List Wanted) (items : List ItemWanted) → parts ≡ inner ++ w ∷ [] → map item_wanted inner ≡ items
    → map item_wanted parts ≡ items ++ item_wanted w ∷ []
with_end inner w parts items is same =
    ap (map item_wanted) is ∙ map-append item_wanted inner (w ∷ []) ∙ ap (λ (ws : List ItemWanted). ws ++ item_wanted w ∷ []) same

-- a line of what may have more behind it
pub line_to : (most : ℕ) (w : Wanted) (parts : List Wanted) → Fit w → Line most w parts → ItemLine most (item_wanted w) (map item_wanted parts) × AllFit parts
line_to most Text parts fit l = absurd fit
line_to most OntologyIri parts fit l = absurd fit
line_to most Annotations parts fit l = absurd fit
line_to most Axioms parts fit l = absurd fit
line_to most DeclarationIn parts fit (inl l) = (inl (noted_to most DeclarationIn parts l), noted_fit most DeclarationIn parts fit l)
line_to most DeclarationIn parts fit (inr (inl (c, is))) =
    (inr (inl (c, ap (map item_wanted) is)), subst AllFit (sym is) (class_own, (tt, (tt, (tt, (tt, tt))))))
line_to most DeclarationIn parts fit (inr (inr is)) = (inr (inr (ap (map item_wanted) is)), subst AllFit (sym is) (inl refl, (tt, (tt, (tt, (tt, tt))))))
line_to most AssertionIn parts fit (inl l) = (inl (noted_to most AssertionIn parts l), noted_fit most AssertionIn parts fit l)
line_to most AssertionIn parts fit (inr is) = (inr (ap (map item_wanted) is), subst AllFit (sym is) (tt, (tt, (tt, (tt, tt)))))
line_to most AnnotationAxiomIn parts fit (inl l) = (inl (noted_to most AnnotationAxiomIn parts l), noted_fit most AnnotationAxiomIn parts fit l)
line_to most AnnotationAxiomIn parts fit (inr is) = (inr (ap (map item_wanted) is), subst AllFit (sym is) (tt, (tt, (tt, tt))))
line_to most (AxiomIn a) parts fit (inl l) = (inl (noted_to most (AxiomIn a) parts l), noted_fit most (AxiomIn a) parts fit l)
line_to most (AxiomIn a) parts fit (inr (word, inner, written, is)) =
    let (heads, exprs, r) = axiom_to most a word inner written in (
      inr (heads, exprs, r.makes, with_end inner (ClosingOf a) parts (operands (Form.Axiom (form_of a)) most heads exprs) is r.same),
      subst AllFit (sym is) (all_fit-append inner (ClosingOf a ∷ []) r.fits (tt, tt)),
    )
line_to most (AnnotationIn n) parts fit (inl l) = (inl (noted_to n (AnnotationIn n) parts l), noted_fit n (AnnotationIn n) parts fit l)
line_to most (AnnotationIn n) parts fit (inr is) = (inr (ap (map item_wanted) is), subst AllFit (sym is) (tt, (tt, (tt, tt))))
line_to most Value parts fit (inl is) = (inl (ap (map item_wanted) is), subst AllFit (sym is) (tt, tt))
line_to most Value parts fit (inr (inl is)) = (inr (inl (ap (map item_wanted) is)), subst AllFit (sym is) (tt, tt))
line_to most Value parts fit (inr (inr (inl is))) = (inr (inr (inl (ap (map item_wanted) is))), subst AllFit (sym is) (tt, (tt, tt)))
line_to most Value parts fit (inr (inr (inr is))) = (inr (inr (inr (ap (map item_wanted) is))), subst AllFit (sym is) (tt, (tt, (tt, tt))))
line_to most (ExprOf n e) parts fit (inl (c, named, is)) = (inl (c, named, ap (map item_wanted) is), subst AllFit (sym is) (tt, tt))
line_to most (ExprOf zero e) parts fit (inr built) = absurd built
line_to most (ExprOf (suc n) e) parts fit (inr (word, inner, written, is)) =
    let (form, roles, exprs, r) = expr_to n e word inner written in
    let ends = with_end inner (Exact Kind.Closing) (inner ++ Exact Kind.Closing ∷ []) (operands (Form.Expr form) n roles exprs) refl r.same in (
      inr (
        form,
        roles,
        exprs,
        r.makes,
        ap (map item_wanted) is
            ∙ ap (λ (key : Keyword). items_opened key (map item_wanted (inner ++ Exact Kind.Closing ∷ []))) r.key
            ∙ ap (items_opened (Keyword.Expr form)) ends,
      ),
      subst AllFit (sym is) (r.own, (tt, all_fit-append inner (Exact Kind.Closing ∷ []) r.fits (tt, tt))),
    )
line_to most w parts fit l = absurd l

-- ---- lines from items to tokens

-- a line of items is one of tokens
abbrev IsLineOf : ℕ → Wanted → List ItemWanted → Type 0
IsLineOf most w items = (parts : List Wanted) × Line most w parts × (items ≡ map item_wanted parts)

noted_line : (most n : ℕ) (w : Wanted) (items : List ItemWanted) → ((parts : List Wanted) → IsAnnotated n w parts → Line most w parts) → IsItemNoted n (item_wanted w) items
    → IsLineOf most w items
noted_line most n w items line l = let (parts, noted, is) = noted_back n w items l in (parts, line parts noted, is)

-- a line of what may have more behind it
pub line_back : (most : ℕ) (w : Wanted) (items : List ItemWanted) → Fit w → ItemLine most (item_wanted w) items → IsLineOf most w items
line_back most Text items fit l = absurd fit
line_back most OntologyIri items fit l = absurd fit
line_back most Annotations items fit l = absurd fit
line_back most Axioms items fit l = absurd fit
line_back most DeclarationIn items fit (inl l) = noted_line most most DeclarationIn items (λ parts k. inl k) l
line_back most DeclarationIn items fit (inr (inl (c, is))) =
    (opened (codes "Class") (ClassOf c ∷ Exact Kind.Closing ∷ Exact Kind.Closing ∷ []), inr (inl (c, refl)), is)
line_back most DeclarationIn items fit (inr (inr is)) =
    (AnyWord other_entities ∷ Exact Kind.Opening ∷ AnyIri ∷ Exact Kind.Closing ∷ Exact Kind.Closing ∷ [], inr (inr refl), is)
line_back most AssertionIn items fit (inl l) = noted_line most most AssertionIn items (λ parts k. inl k) l
line_back most AssertionIn items fit (inr is) = (AnyIri ∷ Subject ∷ Value ∷ Exact Kind.Closing ∷ [], inr refl, is)
line_back most AnnotationAxiomIn items fit (inl l) = noted_line most most AnnotationAxiomIn items (λ parts k. inl k) l
line_back most AnnotationAxiomIn items fit (inr is) = (AnyIri ∷ AnyIri ∷ Exact Kind.Closing ∷ [], inr refl, is)
line_back most (AxiomIn a) items fit (inl l) = noted_line most most (AxiomIn a) items (λ parts k. inl k) l
line_back most (AxiomIn a) items fit (inr (heads, exprs, makes, is)) =
    let (word, inner, r) = axiom_back most (form_of a) heads exprs a makes in (
      inner ++ ClosingOf a ∷ [],
      inr (word, inner, r.written, refl),
      is ∙ sym (with_end inner (ClosingOf a) (inner ++ ClosingOf a ∷ []) (operands (Form.Axiom (form_of a)) most heads exprs) refl r.same),
    )
line_back most (AnnotationIn n) items fit (inl l) = noted_line most n (AnnotationIn n) items (λ parts k. inl k) l
line_back most (AnnotationIn n) items fit (inr is) = (AnyIri ∷ Value ∷ Exact Kind.Closing ∷ [], inr refl, is)
line_back most Value items fit (inl is) = (Subject ∷ [], inl refl, is)
line_back most Value items fit (inr (inl is)) = (Exact Kind.Quoted ∷ [], inr (inl refl), is)
line_back most Value items fit (inr (inr (inl is))) = (Exact Kind.Quoted ∷ Exact Kind.Lang ∷ [], inr (inr (inl refl)), is)
line_back most Value items fit (inr (inr (inr is))) = (Exact Kind.Quoted ∷ Exact Kind.Carets ∷ AnyIri ∷ [], inr (inr (inr refl)), is)
line_back most (ExprOf n e) items fit (inl (c, named, is)) = (ClassOf c ∷ [], inl (c, named, refl), is)
line_back most (ExprOf zero e) items fit (inr built) = absurd built
line_back most (ExprOf (suc n) e) items fit (inr (form, roles, exprs, makes, is)) =
    let (word, inner, r) = expr_back n form roles exprs e makes in
    let ends = with_end inner (Exact Kind.Closing) (inner ++ Exact Kind.Closing ∷ []) (operands (Form.Expr form) n roles exprs) refl r.same in (
      opened word (inner ++ Exact Kind.Closing ∷ []),
      inr (word, inner, r.written, refl),
      is
          ∙ ap (items_opened (Keyword.Expr form)) (sym ends)
          ∙ ap (λ (key : Keyword). items_opened key (map item_wanted (inner ++ Exact Kind.Closing ∷ []))) (sym r.key),
    )
line_back most w items fit l = absurd l

-- ---- lines up to the end

-- parts that end with what is wanted up to the end
ends_with : (front : List Wanted) (w : Wanted) (parts : List Wanted) → AllFit front → IsLast w → parts ≡ front ++ w ∷ []
    → Agree parts (map item_wanted front ++ item_wanted w ∷ [])
ends_with front w parts fits last is = subst (λ (ps : List Wanted). Agree ps (map item_wanted front ++ item_wanted w ∷ [])) (sym is) (agree-last front w fits last)

-- what stands before the rest of a text behind a prefix
abbrev prefix_front : List ℕ → List Wanted
prefix_front p = opened (codes "Prefix") (Exact (Short p []) ∷ Exact Kind.Equals ∷ PrefixIri p ∷ Exact Kind.Closing ∷ [])

abbrev opened_front : List ℕ → Wanted → List Wanted
opened_front word w = Exact (Word word) ∷ Exact Kind.Opening ∷ w ∷ []

abbrev Ends : ℕ → Wanted → List Wanted → Type 0
Ends most w parts = (items : List ItemWanted) × ItemLine most (item_wanted w) items × Agree parts items

-- a line of what is wanted up to the end
pub last_to : (most : ℕ) (w : Wanted) (parts : List Wanted) → IsLast w → Line most w parts → Ends most w parts
last_to most Text parts last (inl (p, is)) =
    (_, inl (p, refl), ends_with (prefix_front p) Text parts (prefix_own, (tt, (tt, (tt, (tt, (tt, tt)))))) tt is)
last_to most Text parts last (inr is) =
    (_, inr refl, ends_with (Exact (Word (codes "Ontology")) ∷ Exact Kind.Opening ∷ []) OntologyIri parts (ontology_own, (tt, tt)) tt is)
last_to most OntologyIri parts last (inl is) = (_, inl refl, ends_with [] Annotations parts tt tt is)
last_to most OntologyIri parts last (inr (inl is)) = (_, inr (inl refl), ends_with (AnyIri ∷ []) Annotations parts (tt, tt) tt is)
last_to most OntologyIri parts last (inr (inr is)) = (_, inr (inr refl), ends_with (AnyIri ∷ AnyIri ∷ []) Annotations parts (tt, (tt, tt)) tt is)
last_to most Annotations parts last (inl l) = (map item_wanted parts, inl (noted_to most Annotations parts l), noted_agree most Annotations parts tt l)
last_to most Annotations parts last (inr is) = (_, inr refl, ends_with [] Axioms parts tt tt is)
last_to most Axioms parts last (inl is) =
    (_, inl refl, ends_with (opened_front (codes "Declaration") DeclarationIn) Axioms parts (declaration_own, (tt, (tt, tt))) tt is)
last_to most Axioms parts last (inr (inl (a, word, inner, written, is))) =
    let (heads, exprs, r) = axiom_to most a word inner written in (
      _,
      inr (inl (form_of a, a, (heads, exprs, r.makes), ap (λ (key : Keyword). items_opened key (ItemWanted.AxiomIn (form_of a) a ∷ ItemWanted.Axioms ∷ [])) r.key)),
      ends_with (opened_front word (AxiomIn a)) Axioms parts (r.own, (tt, (tt, tt))) tt is,
    )
last_to most Axioms parts last (inr (inr (inl is))) =
    (_, inr (inr (inl refl)), ends_with (opened_front (codes "AnnotationAssertion") AssertionIn) Axioms parts (assertion_own, (tt, (tt, tt))) tt is)
last_to most Axioms parts last (inr (inr (inr (inl is)))) =
    (_, inr (inr (inr (inl refl))), ends_with (AnyWord annotation_axioms ∷ Exact Kind.Opening ∷ AnnotationAxiomIn ∷ []) Axioms parts (inr refl, (tt, (tt, tt))) tt is)
last_to most Axioms parts last (inr (inr (inr (inr is)))) = (
  _,
  inr (inr (inr (inr refl))),
  subst (λ (ps : List Wanted). Agree ps (ItemWanted.Exact Item.Closing ∷ ItemWanted.Exact Item.End ∷ [])) (sym is)
      (agree-append (Exact Kind.Closing ∷ []) [] (ItemWanted.Exact Item.End ∷ []) (tt, tt) refl),
)
last_to most w parts last l = absurd last

-- items that end with what is wanted up to the end
back_with : (front : List Wanted) (w : Wanted) (items : List ItemWanted) → AllFit front → IsLast w → items ≡ map item_wanted front ++ item_wanted w ∷ []
    → Agree (front ++ w ∷ []) items
back_with front w items fits last is = subst (Agree (front ++ w ∷ [])) (sym is) (agree-last front w fits last)

-- a line of items up to the end
pub last_back : (most : ℕ) (w : Wanted) (items : List ItemWanted) → IsLast w → ItemLine most (item_wanted w) items
    → (parts : List Wanted) × Line most w parts × Agree parts items
last_back most Text items last (inl (p, is)) =
    (_, inl (p, refl), back_with (prefix_front p) Text items (prefix_own, (tt, (tt, (tt, (tt, (tt, tt)))))) tt is)
last_back most Text items last (inr is) =
    (_, inr refl, back_with (Exact (Word (codes "Ontology")) ∷ Exact Kind.Opening ∷ []) OntologyIri items (ontology_own, (tt, tt)) tt is)
last_back most OntologyIri items last (inl is) = (_, inl refl, back_with [] Annotations items tt tt is)
last_back most OntologyIri items last (inr (inl is)) = (_, inr (inl refl), back_with (AnyIri ∷ []) Annotations items (tt, tt) tt is)
last_back most OntologyIri items last (inr (inr is)) = (_, inr (inr refl), back_with (AnyIri ∷ AnyIri ∷ []) Annotations items (tt, (tt, tt)) tt is)
last_back most Annotations items last (inl l) =
    let (parts, noted, is) = noted_back most Annotations items l in (parts, inl noted, subst (Agree parts) (sym is) (noted_agree most Annotations parts tt noted))
last_back most Annotations items last (inr is) = (_, inr refl, back_with [] Axioms items tt tt is)
last_back most Axioms items last (inl is) =
    (_, inl refl, back_with (opened_front (codes "Declaration") DeclarationIn) Axioms items (declaration_own, (tt, (tt, tt))) tt is)
last_back most Axioms items last (inr (inl (form, a, (heads, exprs, makes), is))) =
    let (word, inner, r) = axiom_back most form heads exprs a makes in
    let keyed = ap (λ (key : Keyword). items_opened key (ItemWanted.AxiomIn form a ∷ ItemWanted.Axioms ∷ [])) (sym r.key) in
    let formed = ap (λ (f : AxiomForm). items_opened (key_of word) (ItemWanted.AxiomIn f a ∷ ItemWanted.Axioms ∷ [])) r.form_is in (
      opened word (AxiomIn a ∷ Axioms ∷ []),
      inr (inl (a, word, inner, r.written, refl)),
      back_with (opened_front word (AxiomIn a)) Axioms items (r.own, (tt, (tt, tt))) tt (is ∙ keyed ∙ formed),
    )
last_back most Axioms items last (inr (inr (inl is))) =
    (_, inr (inr (inl refl)), back_with (opened_front (codes "AnnotationAssertion") AssertionIn) Axioms items (assertion_own, (tt, (tt, tt))) tt is)
last_back most Axioms items last (inr (inr (inr (inl is)))) =
    (_, inr (inr (inr (inl refl))), back_with (AnyWord annotation_axioms ∷ Exact Kind.Opening ∷ AnnotationAxiomIn ∷ []) Axioms items (inr refl, (tt, (tt, tt))) tt is)
last_back most Axioms items last (inr (inr (inr (inr is)))) = (
  _,
  inr (inr (inr (inr refl))),
  subst (Agree (Exact Kind.Closing ∷ [])) (sym is)
      (agree-append (Exact Kind.Closing ∷ []) [] (ItemWanted.Exact Item.End ∷ []) (tt, tt) refl),
)
last_back most w items last l = absurd last
