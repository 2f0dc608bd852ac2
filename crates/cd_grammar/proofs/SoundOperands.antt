-- What the machine takes among operands is in the grammar.
use Rattle.std.proofs.Common.{◌≡◌, ◌≢◌, ℕ, zero, suc, Bool, true, false, List, [], ◌∷◌, ◌++◌, if◌then◌else◌, sym, refl, ap, subst, ◌∙◌, inl, inr, append_assoc, append-nil, arith}
use Rattle.std.specs.Prelude.{Option, Some, None}
use Rattle.std.specs.Option.{option_map}
use Rattle.std.proofs.lemmas.List.{nil_from_length}
use Rattle.cd_meaning.specs.declared.expression.Axiom.{Axiom}
use Rattle.cd_meaning.specs.declared.expression.Expr.{Expr}
use Rattle.cd_meaning.specs.declared.expression.Expr.TheVariants.{Name}
use Rattle.cd_names.specs.Names.{number}
use Rattle.cd_syntax.specs.declared.item.Item.{Item}
use Rattle.cd_syntax.specs.declared.item.Item.TheVariants.{Word}
use Rattle.cd_syntax.specs.declared.known.Known.{Known}
use Rattle.cd_syntax.specs.declared.operands.Made.{Made}
use Rattle.cd_grammar.specs.declared.symbol.Frame.{Frame}
use Rattle.cd_grammar.specs.declared.symbol.Symbol.{Symbol}
use Rattle.cd_grammar.specs.declared.symbol.Symbol.TheVariants.{Inside}
use Rattle.cd_syntax.specs.declared.words.AxiomForm.{AxiomForm}
use Rattle.cd_syntax.specs.declared.words.ExprForm.{ExprForm}
use Rattle.cd_syntax.specs.declared.words.Form.{Form}
use Rattle.cd_syntax.specs.declared.words.Keyword.{Keyword}
use Rattle.cd_syntax.specs.Grammar.{with_class, with_role}
use Rattle.cd_syntax.proofs.ItemGrammar.{Wanted, Exact, ClassOf, RoleOf, ClosingOf, ExprOf, Means, Leads, head_of, operands, opened, IsBuilt, Line, IsMade}
use Rattle.cd_syntax.specs.Named.{iri_of, is_role}
use Rattle.cd_grammar.specs.Machine.{State, bare, with_head, with_part, wants_head_next, wants_part_next, given, closed, deeper, head_taken, part_taken, operand_taken, inside_taken}
use Rattle.cd_syntax.specs.Operands.{axiom_of, expression_of, made_of, has_class_head}
use Rattle.cd_grammar.proofs.Fills.{last_of, handed_by, Completes, Fills}
use Rattle.cd_syntax.proofs.Items.{means, is_role-Decides}
use Rattle.cd_grammar.proofs.SoundForms.{IsSoundStep, if_sound}

-- ---- what may follow behind one operand more

-- a list that ends with something
not_empty : {X : Type 0} (xs : List X) (x : X) → xs ++ x ∷ [] ≢ []
not_empty [] x h = absurd cc
not_empty (y ∷ xs) x h = absurd cc

-- a part, and then what may follow behind it
part_completes : (frame : Frame) (e : Expr) (wanted : List Wanted) (handed : List Expr) → Completes frame (e ∷ []) wanted handed
    → Completes frame [] (ExprOf frame.nesting e ∷ wanted) handed
part_completes frame e wanted handed c =
    let none : c.heads ≡ [] = elim c.in_order [ inl n ↦ n | inr n ↦ absurd (not_empty frame.parts e n) ] in
    record {
      heads = [];
      parts = e ∷ c.parts;
      made = c.made;
      makes = (ap (λ (hs : List ℕ). made_of frame.form (frame.heads ++ hs) ((frame.parts ++ []) ++ e ∷ c.parts)) (sym none)
          ∙ ap (λ (ps : List Expr). made_of frame.form (frame.heads ++ c.heads) (ps ++ e ∷ c.parts)) (append-nil frame.parts)
          ∙ ap (made_of frame.form (frame.heads ++ c.heads)) (sym (append_assoc frame.parts (e ∷ []) c.parts))) ∙ c.makes;
      in_order = inl refl;
      wants = ap (λ (x : List Wanted). ExprOf frame.nesting e ∷ x)
          (c.wants ∙ ap (λ (hs : List ℕ). operands frame.form frame.nesting hs c.parts ++ last_of c.made ∷ []) none);
      hands = c.hands;
    }

-- the part that a deeper expression hands on
handed_completes : (frame : Frame) (e : Expr) (wanted : List Wanted) (handed : List Expr) → Completes (with_part frame e) [] wanted handed → Completes frame (e ∷ []) wanted handed
handed_completes frame e wanted handed c =
    let nil = append-nil (frame.parts ++ e ∷ []) in
    record {
      heads = c.heads;
      parts = c.parts;
      made = c.made;
      makes = ap (λ (ps : List Expr). made_of frame.form (frame.heads ++ c.heads) (ps ++ c.parts)) (sym nil) ∙ c.makes;
      in_order = elim c.in_order [ inl n ↦ inl n | inr n ↦ inr (sym nil ∙ n) ];
      wants = c.wants;
      hands = c.hands;
    }

-- a role (or a class), and then what may follow behind it
pub head_completes : (frame : Frame) (h : ℕ) (wanted : List Wanted) (handed : List Expr) → frame.parts ≡ [] → Completes (with_head frame h) [] wanted handed
    → Completes frame [] (head_of frame.form h ∷ wanted) handed
head_completes frame h wanted handed none c = record {
  heads = h ∷ c.heads;
  parts = c.parts;
  made = c.made;
  makes = ap (λ (hs : List ℕ). made_of frame.form hs ((frame.parts ++ []) ++ c.parts)) (sym (append_assoc frame.heads (h ∷ []) c.heads)) ∙ c.makes;
  in_order = inr (append-nil frame.parts ∙ none);
  wants = ap (λ (x : List Wanted). head_of frame.form h ∷ x) c.wants;
  hands = c.hands;
}

-- nothing but what ends the operands
end_completes : (frame : Frame) (made : Made) → made_of frame.form frame.heads frame.parts ≡ Some made → Completes frame [] (last_of made ∷ []) (handed_by made)
end_completes frame made e = record {
  heads = [];
  parts = [];
  made = made;
  makes = ap (λ (hs : List ℕ). made_of frame.form hs ((frame.parts ++ []) ++ [])) (append-nil frame.heads)
      ∙ ap (made_of frame.form frame.heads) (append-nil (frame.parts ++ []) ∙ append-nil frame.parts) ∙ e;
  in_order = inl refl;
  wants = refl;
  hands = refl;
}

-- ---- all operands

-- operands of an expression make an expression
made_expression : (made : Made) (o : Option Expr) → option_map Made.Expr o ≡ Some made → (e : Expr) × (o ≡ Some e) × (made ≡ Made.Expr e)
made_expression made None h = absurd cc
made_expression made (Some e) h = (e, refl, cc)

-- all the operands of an expression are a line of it, and it is handed on
expression_line : (form : ExprForm) (n : ℕ) (wanted : List Wanted) (handed : List Expr) → Completes (bare (Form.Expr form) n) [] wanted handed
    → (e : Expr) × (handed ≡ e ∷ []) × IsBuilt (suc n) e (opened (Keyword.Expr form) wanted)
expression_line form n wanted handed c =
    let made = made_expression c.made (expression_of form c.heads c.parts) c.makes in
    let written = c.wants ∙ ap (λ (m : Made). operands (Form.Expr form) n c.heads c.parts ++ last_of m ∷ []) made.2 in
    (made.0, c.hands ∙ ap handed_by made.2, (form, c.heads, c.parts, made.1, ap (opened (Keyword.Expr form)) written))

-- operands of an axiom make an axiom
made_axiom : (made : Made) (o : Option Axiom) → option_map Made.Axiom o ≡ Some made → (a : Axiom) × (o ≡ Some a) × (made ≡ Made.Axiom a)
made_axiom made None h = absurd cc
made_axiom made (Some a) h = (a, refl, cc)

-- all the operands of an axiom are a line of it, and nothing is handed on
pub axiom_line : (form : AxiomForm) (most : ℕ) (wanted : List Wanted) (handed : List Expr) → Completes (bare (Form.Axiom form) most) [] wanted handed
    → (a : Axiom) × (handed ≡ []) × Line most (Wanted.AxiomIn form a) wanted × IsMade form a
axiom_line form most wanted handed c =
    let made = made_axiom c.made (axiom_of form c.heads c.parts) c.makes in
    let written = c.wants ∙ ap (λ (m : Made). operands (Form.Axiom form) most c.heads c.parts ++ last_of m ∷ []) made.2 in
    (made.0, c.hands ∙ ap handed_by made.2, inr (c.heads, c.parts, made.1, written), (c.heads, c.parts, made.1))

-- ---- the items

module _ (most : ℕ) (known : Known) where
  -- an operand was taken, which stands for this
  operand_sound : (after : Known) (frame longer : Frame) (w : Wanted) (item : Item) (stack : List Symbol)
      → ((wanted : List Wanted) (handed : List Expr) → Completes longer [] wanted handed → Completes frame [] (w ∷ wanted) handed)
      → ((wanted : List Wanted) (known' : Known) (wanted' : List Wanted) (items : List Item) → Leads most after wanted items known' wanted'
      → Leads most known (w ∷ wanted) (item ∷ items) known' wanted')
      → IsSoundStep most known (Inside frame) item stack (Some (after, Inside longer ∷ stack))
  operand_sound after frame longer w item stack completes leads wanted f known' wanted' items r =
      (w ∷ wanted, (w ∷ f.0, f.1, f.2, completes f.0 f.1 f.3, ap (λ (x : List Wanted). w ∷ x) f.4, f.5), leads wanted known' wanted' items r)

  -- a role, or a class in its place, was taken
  head_sound : (frame : Frame) (item : Item) (stack : List Symbol) (i : List ℕ) (is_class : Bool) → Means known item i → frame.parts ≡ [] → has_class_head frame.form ≡ is_class
      → IsSoundStep most known (Inside frame) item stack (head_taken is_class known frame stack i)
  head_sound frame item stack i true m none e =
      let c = number known.classes i in
      operand_sound (with_class known i) frame (with_head frame c) (head_of frame.form c) item stack
      (λ wanted handed. head_completes frame c wanted handed none)
      (λ wanted known' wanted' items r. rw (e, head_of) (Leads.one {w = ClassOf c} (i, m, refl, refl) r))
  head_sound frame item stack i false m none e =
      let n = number known.roles i in
      if_sound most known (Inside frame) item stack (is_role i) (with_role known i, Inside (with_head frame n) ∷ stack)
      (λ is. let named = (is_role-Decides i).0 is in
      operand_sound (with_role known i) frame (with_head frame n) (head_of frame.form n) item stack
      (λ wanted handed. head_completes frame n wanted handed none)
      (λ wanted known' wanted' items r. rw (e, head_of) (Leads.one {w = RoleOf n} (i, m, named.0, named.1, refl, refl) r)))

  -- a named class was taken
  part_sound : (frame : Frame) (item : Item) (stack : List Symbol) (i : List ℕ) → Means known item i
      → IsSoundStep most known (Inside frame) item stack (part_taken known frame stack i)
  part_sound frame item stack i m =
      let c = number known.classes i in
      operand_sound (with_class known i) frame (with_part frame (Name c)) (ExprOf frame.nesting (Name c)) item stack
      (λ wanted handed longer. part_completes frame (Name c) wanted handed (handed_completes frame (Name c) wanted handed longer))
      (λ wanted known' wanted' items r. Leads.line (ClassOf c ∷ []) (inl (c, refl, refl)) (Leads.one (i, m, refl, refl) r))

  -- a head is taken where no part came
  no_parts : (frame : Frame) → wants_head_next frame ≡ true → frame.parts ≡ []
  no_parts frame h = nil_from_length frame.parts (grind arith)

  -- an IRI is a head where one may stand, and otherwise a part
  either_sound : (frame : Frame) (item : Item) (stack : List Symbol) (i : List ℕ) (head part : Bool) → wants_head_next frame ≡ head → Means known item i
      → IsSoundStep most known (Inside frame) item stack
      (if head then head_taken (has_class_head frame.form) known frame stack i else (if part then part_taken known frame stack i else None))
  either_sound frame item stack i true part e m = head_sound frame item stack i (has_class_head frame.form) m (no_parts frame e) refl
  either_sound frame item stack i false true e m = part_sound frame item stack i m
  either_sound frame item stack i false false e m = tt

  -- an item that may stand for an IRI
  iri_operand_sound : (frame : Frame) (item : Item) (stack : List Symbol) (o : Option (List ℕ)) → iri_of known item ≡ o
      → IsSoundStep most known (Inside frame) item stack (operand_taken known frame stack o)
  iri_operand_sound frame item stack None e = tt
  iri_operand_sound frame item stack (Some i) e = either_sound frame item stack i (wants_head_next frame) (wants_part_next frame) refl (means known item i e)

  -- the word of an expression, whose value its operands say
  deeper_sound : (frame : Frame) (form : ExprForm) (stack : List Symbol) (wants : Bool) (n : ℕ) → frame.nesting ≡ n
      → IsSoundStep most known (Inside frame) (Word (Keyword.Expr form)) stack (deeper wants n known form (Inside frame ∷ stack))
  deeper_sound frame form stack false n at = tt
  deeper_sound frame form stack true zero at = tt
  deeper_sound frame form stack true (suc n) at = λ wanted f known' wanted' items r.
      let g = subst (λ (given : List Expr). Fills given (Inside (bare (Form.Expr form) n) ∷ Inside frame ∷ stack) f.2) f.3.1 f.5 in
      let built = expression_line form n g.0 g.1 g.3 in
      let e = built.0 in
      let h = subst (λ (given : List Expr). Fills given (Inside frame ∷ stack) g.2) built.1 g.5 in
      let written : wanted ≡ Exact Item.Opening ∷ g.0 ++ g.2 = f.4 ∙ ap (λ (x : List Wanted). x ++ f.2) f.3.0 ∙ ap (λ (x : List Wanted). Exact Item.Opening ∷ x) g.4 in (
        ExprOf frame.nesting e ∷ g.2,
        (ExprOf frame.nesting e ∷ h.0, h.1, h.2, part_completes frame e h.0 h.1 h.3, ap (λ (x : List Wanted). ExprOf frame.nesting e ∷ x) h.4, h.5),
        Leads.line (opened (Keyword.Expr form) g.0) (inr (subst (λ (m : ℕ). IsBuilt m e (opened (Keyword.Expr form) g.0)) (sym at) built.2))
            (Leads.one (refl, refl) (subst (λ (x : List Wanted). Leads most known x items known' wanted') written r)),
      )

  -- the parenthesis behind an expression that is a part of what is wanted next
  given_sound : (frame : Frame) (e : Expr) (stack : List Symbol) → made_of frame.form frame.heads frame.parts ≡ Some (Made.Expr e)
      → IsSoundStep most known (Inside frame) Item.Closing stack (given known e stack)
  given_sound frame e (Inside below ∷ stack) made = λ wanted f known' wanted' items r. (
    Exact Item.Closing ∷ wanted,
    (Exact Item.Closing ∷ [], e ∷ [], wanted, end_completes frame (Made.Expr e) made, refl, (f.0, f.1, f.2, handed_completes below e f.0 f.1 f.3, f.4, f.5)),
    Leads.one (refl, refl) r,
  )
  given_sound frame e stack made = tt

  -- the parenthesis behind operands
  closed_sound : (frame : Frame) (stack : List Symbol) (o : Option Made) → made_of frame.form frame.heads frame.parts ≡ o
      → IsSoundStep most known (Inside frame) Item.Closing stack (closed known o stack)
  closed_sound frame stack None e = tt
  closed_sound frame stack (Some (Made.Axiom a)) e = λ wanted f known' wanted' items r.
      (ClosingOf a ∷ wanted, (ClosingOf a ∷ [], [], wanted, end_completes frame (Made.Axiom a) e, refl, f), Leads.one (refl, refl) r)
  closed_sound frame stack (Some (Made.Expr x)) e = given_sound frame x stack e

  -- an item behind operands
  pub inside_sound : (frame : Frame) (item : Item) (stack : List Symbol) → IsSoundStep most known (Inside frame) item stack (inside_taken known frame item stack)
  inside_sound frame Item.Closing stack = closed_sound frame stack (made_of frame.form frame.heads frame.parts) refl
  inside_sound frame (Word (Keyword.Expr form)) stack = deeper_sound frame form stack (wants_part_next frame) frame.nesting refl
  inside_sound frame item stack = iri_operand_sound frame item stack (iri_of known item) refl

  -- what an axiom's operands take stands where the axiom may still be annotated
  pub axiom_sound : (form : AxiomForm) (item : Item) (stack : List Symbol) (o : Option State) → IsSoundStep most known (Inside (bare (Form.Axiom form) most)) item stack o
      → IsSoundStep most known (Symbol.AxiomIn form) item stack o
  axiom_sound form item stack None h = tt
  axiom_sound form item stack (Some state) h = λ wanted f known' wanted' items r.
      let whole = h wanted f known' wanted' items r in
      let g = whole.1 in
      let line = axiom_line form most g.0 g.1 g.3 in (
        Wanted.AxiomIn form line.0 ∷ g.2,
        (Wanted.AxiomIn form line.0 ∷ [], [], g.2, ((line.0, line.3, refl), refl), refl, subst (λ (given : List Expr). Fills given stack g.2) line.1 g.5),
        Leads.line g.0 line.2 (subst (λ (x : List Wanted). Leads most known x (item ∷ items) known' wanted') g.4 whole.2),
      )
