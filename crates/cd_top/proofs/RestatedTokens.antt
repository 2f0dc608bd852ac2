-- The tokens of a taxonomy are those of a document, which has an axiom for each line.
use Rattle.std.proofs.Common.{◌≡◌, ℕ, List, [], ◌∷◌, ◌++◌, map, refl, sym, subst, ◌∙◌, append_assoc, inl, inr}
use Rattle.std.specs.Prelude.{codes, Some}
use Rattle.std.proofs.lemmas.List.{append-nil}
use Rattle.cd_meaning.specs.declared.expression.Axiom.{Axiom}
use Rattle.cd_meaning.specs.declared.expression.Axiom.TheVariants.{SubClass, SameClasses}
use Rattle.cd_meaning.specs.declared.expression.Expr.{Expr}
use Rattle.cd_meaning.specs.declared.expression.Expr.TheVariants.{Name}
use Rattle.cd_meaning.specs.Hierarchy.{name_of}
use Rattle.cd_meaning.specs.Iri.{reserved_classes}
use Rattle.cd_names.specs.Names.{add_name, number}
use Rattle.cd_names.specs.Prefixes.{standard}
use Rattle.cd_lex.specs.declared.token.Kind.{Kind}
use Rattle.cd_lex.specs.declared.token.Kind.TheVariants.{Opening, Closing, Word}
use Rattle.cd_syntax.specs.declared.known.Known.{Known}
use Rattle.cd_syntax.specs.Grammar.{begun, with_class, with_axiom, Wanted, Exact, ClassOf, ClosingOf, Text, OntologyIri, Annotations, Axioms, AxiomIn, ExprOf, axiom_form, opened, Leads}
use Rattle.cd_top.proofs.RestatedLines.{Statement, Same, Sub, operands, word_of, operand_kinds, kinds_of}
use Rattle.cd_top.proofs.RestatedNames.{add_all, IsFront, front_all, number_stays}

module _ (names : List (List ℕ)) where
  abbrev pub operand_names : List ℕ → List (List ℕ)
  operand_names [] = []
  operand_names (c ∷ more) = name_of names c ∷ operand_names more

  -- the names when the lines are read
  abbrev pub classes_after : List (List ℕ) → List Statement → List (List ℕ)
  classes_after classes [] = classes
  classes_after classes (s ∷ more) = classes_after (add_all classes (operand_names (operands s))) more

  pub front_after : (classes : List (List ℕ)) (ss : List Statement) (later : List (List ℕ)) → IsFront (classes_after classes ss) later → IsFront classes later
  front_after classes [] later h = h
  front_after classes (s ∷ ss) later h =
      front_all classes (operand_names (operands s)) later (front_after (add_all classes (operand_names (operands s))) ss later h)

  module _ (final : List (List ℕ)) where
    -- the class's number among the names that are known in the end
    abbrev pub renumbered : ℕ → ℕ
    renumbered c = number final (name_of names c)

    abbrev pub named : ℕ → Expr
    named c = Name (renumbered c)

    abbrev pub axiom_of : Statement → Axiom
    axiom_of (Same c d more) = SameClasses (map named (c ∷ d ∷ more))
    axiom_of (Sub c d) = SubClass (named c) (named d)

    abbrev pub axioms_after : List Axiom → List Statement → List Axiom
    axioms_after axioms [] = axioms
    axioms_after axioms (s ∷ more) = axioms_after (axioms ++ axiom_of s ∷ []) more

    pub axioms_are : (axioms : List Axiom) (ss : List Statement) → axioms_after axioms ss ≡ axioms ++ map axiom_of ss
    axioms_are axioms [] = sym (append-nil axioms)
    axioms_are axioms (s ∷ ss) = axioms_are (axioms ++ axiom_of s ∷ []) ss ∙ append_assoc axioms (axiom_of s ∷ []) (map axiom_of ss)

    abbrev inner : ℕ → Statement → List Wanted
    inner most s = map (ExprOf most) (map named (operands s))

    form_is : (most : ℕ) (s : Statement) → axiom_form most (axiom_of s) ≡ Some (word_of s, inner most s)
    form_is most (Same c d more) = refl
    form_is most (Sub c d) = refl

    abbrev with_names : Known → List ℕ → Known
    with_names known cs = record known { classes = add_all known.classes (operand_names cs) }

    leads_operands : (most : ℕ) (known : Known) (cs : List ℕ) → IsFront (add_all known.classes (operand_names cs)) final
        → (wanted : List Wanted) (kinds : List Kind) (known' : Known) (wanted' : List Wanted)
        → Leads most (with_names known cs) wanted kinds known' wanted'
        → Leads most known (map (ExprOf most) (map named cs) ++ wanted) (operand_kinds names cs kinds) known' wanted'
    leads_operands most known [] front wanted kinds known' wanted' rest = rest
    leads_operands most known (c ∷ cs) front wanted kinds known' wanted' rest =
        let i : List ℕ = name_of names c in
        let e : renumbered c ≡ number known.classes i
        = number_stays known.classes i final (front_all (add_name known.classes i) (operand_names cs) final front) in
        Leads.by_line (ClassOf (renumbered c) ∷ []) (inl (renumbered c, refl, refl))
        (Leads.one {after = with_class known i} (i, refl, e, refl)
        (leads_operands most (with_class known i) cs front wanted kinds known' wanted' rest))

    abbrev known_after : Known → List Statement → Known
    known_after known [] = known
    known_after known (s ∷ more) = known_after (with_axiom (with_names known (operands s)) (axiom_of s)) more

    leads_statements : (most : ℕ) (known : Known) (ss : List Statement) → IsFront (classes_after known.classes ss) final
        → Leads most known (Axioms ∷ []) (kinds_of names ss (Closing ∷ [])) (known_after known ss) []
    leads_statements most known [] front =
        Leads.by_line (Exact Closing ∷ []) (inr (inr (inr (inr refl)))) (Leads.one {after = known} (refl, refl) Leads.here)
    leads_statements most known (s ∷ ss) front =
        let a : Axiom = axiom_of s in
        let kinds : List Kind = kinds_of names ss (Closing ∷ []) in
        let read : Known = with_names known (operands s) in
        let behind : Leads most read (ClosingOf a ∷ Axioms ∷ []) (Closing ∷ kinds) (known_after known (s ∷ ss)) []
        = Leads.one {after = with_axiom read a} (refl, refl) (leads_statements most (with_axiom read a) ss front) in
        let all : Leads most known (inner most s ++ (ClosingOf a ∷ Axioms ∷ [])) (operand_kinds names (operands s) (Closing ∷ kinds)) (known_after known (s ∷ ss)) []
        = leads_operands most known (operands s)
        (front_after (add_all known.classes (operand_names (operands s))) ss final front)
        (ClosingOf a ∷ Axioms ∷ []) (Closing ∷ kinds) (known_after known (s ∷ ss)) [] behind in
        Leads.by_line (opened (word_of s) (AxiomIn a ∷ Axioms ∷ [])) (inr (inl (a, word_of s, inner most s, form_is most s, refl)))
        (Leads.one {after = known} (refl, refl)
        (Leads.one {after = known} (refl, refl)
        (Leads.by_line (inner most s ++ ClosingOf a ∷ []) (inr (word_of s, inner most s, form_is most s, refl))
        (subst (λ (wanted : List Wanted). Leads most known wanted (operand_kinds names (operands s) (Closing ∷ kinds)) (known_after known (s ∷ ss)) [])
        (sym (append_assoc (inner most s) (ClosingOf a ∷ []) (Axioms ∷ []))) all))))

  -- what the lines make known
  abbrev pub said_by : List Statement → Known
  said_by ss = let final : List (List ℕ) = classes_after reserved_classes ss in
      record { prefixes = standard; classes = final; roles = []; axioms = axioms_after final [] ss }

  known_is : (final : List (List ℕ)) (known : Known) (ss : List Statement)
      → known_after final known ss ≡ record { prefixes = known.prefixes; classes = classes_after known.classes ss; roles = known.roles; axioms = axioms_after final known.axioms ss }
  known_is final known [] = refl
  known_is final known (s ∷ ss) = known_is final (with_axiom (with_names final known (operands s)) (axiom_of final s)) ss

  pub leads_text : (most : ℕ) (ss : List Statement)
      → Leads most begun (Text ∷ []) (Word (codes "Ontology") ∷ Opening ∷ kinds_of names ss (Closing ∷ [])) (said_by ss) []
  leads_text most ss =
      let final : List (List ℕ) = classes_after reserved_classes ss in
      let lines : Leads most begun (Axioms ∷ []) (kinds_of names ss (Closing ∷ [])) (said_by ss) []
      = subst (λ (known : Known). Leads most begun (Axioms ∷ []) (kinds_of names ss (Closing ∷ [])) known []) (known_is final begun ss)
      (leads_statements final most begun ss ([], sym (append-nil final))) in
      Leads.by_line (opened (codes "Ontology") (OntologyIri ∷ [])) (inr refl)
      (Leads.one {after = begun} (refl, refl)
      (Leads.one {after = begun} (refl, refl)
      (Leads.by_line (Annotations ∷ []) (inl refl) (Leads.by_line (Axioms ∷ []) (inr refl) lines))))
