-- A derivation from operands that may follow goes through what the machine makes of its first item.
use Rattle.std.proofs.Common.{◌≡◌, ◌⊎◌, ◌<◌, ℕ, zero, suc, Bool, true, false, List, [], ◌∷◌, ◌++◌, length, refl, sym, ap, subst, ◌∙◌, inl, inr, append-nil, append_assoc, arith, length-append}
use Rattle.std.specs.Prelude.{Option, Some}
use Rattle.std.specs.Option.{option_map}
use Rattle.cd_meaning.specs.declared.expression.Expr.{Expr}
use Rattle.cd_meaning.specs.declared.expression.Expr.TheVariants.{Name}
use Rattle.cd_names.specs.Names.{number}
use Rattle.cd_syntax.specs.declared.item.Item.{Item}
use Rattle.cd_syntax.specs.declared.item.Item.TheVariants.{Short, FullIri}
use Rattle.cd_syntax.specs.declared.known.Known.{Known}
use Rattle.cd_syntax.specs.declared.operands.Made.{Made}
use Rattle.cd_grammar.specs.declared.symbol.Frame.{Frame}
use Rattle.cd_grammar.specs.declared.symbol.Symbol.{Symbol}
use Rattle.cd_grammar.specs.declared.symbol.Symbol.TheVariants.{Inside}
use Rattle.cd_syntax.specs.declared.words.Form.{Form}
use Rattle.cd_syntax.specs.Grammar.{with_role}
use Rattle.cd_syntax.proofs.ItemGrammar.{Wanted, Exact, ClassOf, RoleOf, ExprOf, Means, head_of, operands, IsBuilt, Leads}
use Rattle.cd_grammar.specs.Machine.{State, taken_if, bare, with_head, with_part, wants_head_next, wants_part_next, given, closed, deeper, head_taken, part_taken, operand_taken, inside_taken}
use Rattle.cd_syntax.specs.Operands.{has_class_head, wants_head, made_of}
use Rattle.cd_syntax.proofs.Counts.{IsCount, counts, wants_head-next, wants_head-none, wants_part-next}
use Rattle.cd_syntax.proofs.Derivation.{exact_first, class_first, role_first, lined}
use Rattle.cd_syntax.proofs.Items.{iri_of-means, is_role-Decides}
use Rattle.cd_grammar.proofs.Derivation.{Goes, goes_on, by_word}
use Rattle.cd_grammar.proofs.Fills.{last_of, handed_by, Completes, Fills}

-- ---- the end of operands

-- what may follow the expression that is handed on may follow it as a part
given_part : (frame : Frame) (e : Expr) (first : List Wanted) (handed : List Expr) → Completes frame (e ∷ []) first handed
    → Completes (with_part frame e) [] first handed
given_part frame e first handed c =
    let same = append-nil (frame.parts ++ e ∷ []) in
    record {
      heads = c.heads;
      parts = c.parts;
      made = c.made;
      makes = ap (λ (ps : List Expr). made_of frame.form (frame.heads ++ c.heads) (ps ++ c.parts)) same ∙ c.makes;
      in_order = elim c.in_order [ inl none ↦ inl none | inr none ↦ inr (same ∙ none) ];
      wants = c.wants;
      hands = c.hands;
    }

-- an expression is handed on
given_goes : {most : ℕ} {items : List Item} {known known' : Known} {wanted' : List Wanted} (e : Expr) (stack : List Symbol) (rest : List Wanted)
    → Fills (e ∷ []) stack rest → Leads most known rest items known' wanted' → Goes most items known' wanted' (given known e stack)
given_goes e [] rest fills r = absurd cc
given_goes e (Inside frame ∷ stack) rest (first, handed, more, c, is, fills) r =
    (rest, (first, handed, more, given_part frame e first handed c, is, fills), r)
given_goes e (symbol ∷ stack) rest (first, handed, more, wants, is, fills) r = absurd wants

-- what ends the operands is a parenthesis, and what they make goes on
closed_goes : {most : ℕ} {items : List Item} {known known' : Known} {item : Item} {wanted' : List Wanted} (made : Made) (stack : List Symbol)
    (rest : List Wanted)
    → Fills (handed_by made) stack rest → Leads most known (last_of made ∷ rest) (item ∷ items) known' wanted'
    → (item ≡ Item.Closing) × Goes most items known' wanted' (closed known (Some made) stack)
closed_goes {most} {items} {known' = known'} {wanted'} (Made.Axiom a) stack rest fills (Leads.one (is, new) r) =
    (is, (rest, fills, subst (λ (k : Known). Leads most k rest items known' wanted') new r))
closed_goes (Made.Axiom a) stack rest fills (Leads.line parts l r) = absurd l
closed_goes (Made.Expr e) stack rest fills r = let first = exact_first r in (first.0, given_goes e stack rest fills first.1)

-- ---- a role, or a class in its place

-- a class or a role
abbrev head_if : Bool → ℕ → Wanted
head_if b = elim b [ true ↦ ClassOf | false ↦ RoleOf ]

-- the first item is that of a head
head_goes : {most : ℕ} {items : List Item} {known known' : Known} {item : Item} {wanted' : List Wanted} (is_class : Bool) (h : ℕ) (wanted : List Wanted)
    (frame : Frame) (stack : List Symbol)
    → Fills [] (Inside (with_head frame h) ∷ stack) wanted → Leads most known (head_if is_class h ∷ wanted) (item ∷ items) known' wanted'
    → (i : List ℕ) × Means known item i × Goes most items known' wanted' (head_taken is_class known frame stack i)
head_goes true h wanted frame stack fills r =
    let (i, means, numbered, more) = class_first r in
    (i, means, (wanted, subst (λ (k : ℕ). Fills [] (Inside (with_head frame k) ∷ stack) wanted) numbered fills, more))
head_goes {known} false h wanted frame stack fills r =
    let (i, means, no_top, no_bottom, numbered, more) = role_first r in (
      i,
      means,
      goes_on (ap (λ (b : Bool). taken_if b (with_role known i, Inside (with_head frame (number known.roles i)) ∷ stack)) ((is_role-Decides i).1 (no_top, no_bottom)))
          (subst (λ (k : ℕ). Fills [] (Inside (with_head frame k) ∷ stack) wanted) numbered fills) more,
    )

-- ---- an item that stands for an IRI

-- it is an operand
inside_iri : (known : Known) (frame : Frame) (item : Item) (stack : List Symbol) (i : List ℕ) → Means known item i
    → inside_taken known frame item stack ≡ operand_taken known frame stack (Some i)
inside_iri known frame (FullIri j) stack i m = ap (operand_taken known frame stack) (iri_of-means known (FullIri j) i m)
inside_iri known frame (Short p l) stack i m = ap (operand_taken known frame stack) (iri_of-means known (Short p l) i m)
inside_iri known frame item stack i m = absurd m

-- a head, where one is wanted
operand_head : (known : Known) (frame : Frame) (stack : List Symbol) (i : List ℕ) → wants_head_next frame ≡ true
    → operand_taken known frame stack (Some i) ≡ head_taken (has_class_head frame.form) known frame stack i
operand_head known frame stack i e = rw e refl

-- a part, where no head is wanted
operand_part : (known : Known) (frame : Frame) (stack : List Symbol) (i : List ℕ) → wants_head_next frame ≡ false → wants_part_next frame ≡ true
    → operand_taken known frame stack (Some i) ≡ part_taken known frame stack i
operand_part known frame stack i no_head e = rw (no_head, e) refl

-- ---- the operands by what follows

-- none follows
end_complete : {most : ℕ} {items : List Item} {known known' : Known} {wanted' : List Wanted} (frame : Frame) (made : Made) (item : Item) (stack : List Symbol)
    (rest : List Wanted)
    → made_of frame.form frame.heads frame.parts ≡ Some made → Fills (handed_by made) stack rest
    → Leads most known (last_of made ∷ rest) (item ∷ items) known' wanted'
    → Goes most items known' wanted' (inside_taken known frame item stack)
end_complete {most} {items} {known} {known'} {wanted'} frame made item stack rest makes fills r =
    let end = closed_goes made stack rest fills r in
    subst (λ (o : Option State). Goes most items known' wanted' o)
    (sym (ap (λ (t : Item). inside_taken known frame t stack) end.0 ∙ ap (λ (m : Option Made). closed known m stack) makes)) end.1

-- a head follows
head_complete : {most : ℕ} {items : List Item} {known known' : Known} {wanted' : List Wanted} (frame : Frame) (h : ℕ) (more : List ℕ) (parts : List Expr)
    (made : Made) (item : Item) (stack : List Symbol) (rest : List Wanted)
    → made_of frame.form (frame.heads ++ h ∷ more) ((frame.parts ++ []) ++ parts) ≡ Some made → frame.parts ≡ [] → Fills (handed_by made) stack rest
    → Leads most known (head_of frame.form h ∷ (operands frame.form frame.nesting more parts ++ last_of made ∷ []) ++ rest) (item ∷ items) known' wanted'
    → Goes most items known' wanted' (inside_taken known frame item stack)
head_complete {most} {items} {known} {known'} {wanted'} frame h more parts made item stack rest makes none fills r =
    let longer : length frame.heads < length (frame.heads ++ h ∷ more) = simp length-append (omega arith) in
    let wants : wants_head_next frame ≡ true =
    ap (λ (ps : List Expr). wants_head frame.form (length frame.heads) (length ps)) none
    ∙ wants_head-next frame.form _ _ (length frame.heads) (counts frame.form _ _ made makes) longer in
    let next : Completes (with_head frame h) [] (operands frame.form frame.nesting more parts ++ last_of made ∷ []) (handed_by made) = record {
      heads = more;
      parts = parts;
      made = made;
      makes = ap (λ (hs : List ℕ). made_of frame.form hs ((frame.parts ++ []) ++ parts)) (append_assoc frame.heads (h ∷ []) more) ∙ makes;
      in_order = inr (append-nil frame.parts ∙ none);
      wants = refl;
      hands = refl;
    } in
    let (i, means, goes) = head_goes (has_class_head frame.form) h _ frame stack (_, handed_by made, rest, next, refl, fills) r in
    subst (λ (o : Option State). Goes most items known' wanted' o)
    (sym (inside_iri known frame item stack i means ∙ operand_head known frame stack i wants)) goes

-- an expression with operands follows
built_complete : {most : ℕ} {items : List Item} {known known' : Known} {wanted' : List Wanted} (frame : Frame) (n : ℕ) (e : Expr) (parts : List Wanted)
    (item : Item) (stack : List Symbol) (wanted : List Wanted)
    → frame.nesting ≡ n → wants_part_next frame ≡ true → IsBuilt n e parts → Fills (e ∷ []) (Inside frame ∷ stack) wanted
    → Leads most known (parts ++ wanted) (item ∷ items) known' wanted' → Goes most items known' wanted' (inside_taken known frame item stack)
built_complete frame zero e parts item stack wanted nests wants built fills r = absurd built
built_complete {known} frame (suc n) e parts item stack wanted nests wants (form, roles, inner, makes, is) fills r =
    let inside : Completes (bare (Form.Expr form) n) [] (operands (Form.Expr form) n roles inner ++ Exact Item.Closing ∷ []) (e ∷ []) = record {
      heads = roles;
      parts = inner;
      made = Made.Expr e;
      makes = ap (option_map Made.Expr) makes;
      in_order = inr refl;
      wants = refl;
      hands = refl;
    } in
    by_word (λ (t : Item). inside_taken known frame t stack) wanted (Inside (bare (Form.Expr form) n) ∷ Inside frame ∷ stack) is r
    (ap (λ (b : Bool). deeper b frame.nesting known form (Inside frame ∷ stack)) wants ∙ ap (λ (k : ℕ). deeper true k known form (Inside frame ∷ stack)) nests)
    (_, e ∷ [], wanted, inside, refl, fills)

-- an expression follows
part_complete : {most : ℕ} {items : List Item} {known known' : Known} {wanted' : List Wanted} (frame : Frame) (e : Expr) (item : Item) (stack : List Symbol)
    (wanted : List Wanted)
    → wants_head_next frame ≡ false → wants_part_next frame ≡ true → Fills (e ∷ []) (Inside frame ∷ stack) wanted
    → Leads most known (ExprOf frame.nesting e ∷ wanted) (item ∷ items) known' wanted' → Goes most items known' wanted' (inside_taken known frame item stack)
part_complete frame e item stack wanted no_head wants fills (Leads.one st r) = absurd st
part_complete {known} frame e item stack wanted no_head wants (first, handed, rest, c, cut, fills) (Leads.line parts (inl (k, named, is)) r) =
    let (i, means, numbered, more) = class_first (lined wanted is r) in
    let same = named ∙ ap (λ (m : ℕ). Name m) numbered in
    goes_on (inside_iri known frame item stack i means ∙ operand_part known frame stack i no_head wants)
    (first, handed, rest, subst (λ (d : Expr). Completes (with_part frame d) [] first handed) same (given_part frame e first handed c), cut, fills) more
part_complete frame e item stack wanted no_head wants fills (Leads.line parts (inr built) r) =
    built_complete frame frame.nesting e parts item stack wanted refl wants built fills r

-- any operands follow
operands_complete : {most : ℕ} {items : List Item} {known known' : Known} {wanted' : List Wanted} (frame : Frame) (heads : List ℕ) (parts : List Expr)
    (made : Made) (item : Item) (stack : List Symbol) (rest : List Wanted)
    → made_of frame.form (frame.heads ++ heads) ((frame.parts ++ []) ++ parts) ≡ Some made → (heads ≡ []) ⊎ (frame.parts ++ [] ≡ [])
    → Fills (handed_by made) stack rest
    → Leads most known ((operands frame.form frame.nesting heads parts ++ last_of made ∷ []) ++ rest) (item ∷ items) known' wanted'
    → Goes most items known' wanted' (inside_taken known frame item stack)
operands_complete frame [] [] made item stack rest makes in_order fills r =
    end_complete frame made item stack rest
    (ap (λ (hs : List ℕ). made_of frame.form hs frame.parts) (sym (append-nil frame.heads))
    ∙ ap (made_of frame.form (frame.heads ++ [])) (sym (append-nil (frame.parts ++ []) ∙ append-nil frame.parts)) ∙ makes)
    fills r
operands_complete frame (h ∷ more) parts made item stack rest makes (inl none) fills r = absurd cc
operands_complete frame (h ∷ more) parts made item stack rest makes (inr none) fills r =
    head_complete frame h more parts made item stack rest makes (sym (append-nil frame.parts) ∙ none) fills r
operands_complete frame [] (e ∷ more) made item stack rest makes in_order fills r =
    let same : (frame.parts ++ []) ++ e ∷ more ≡ (frame.parts ++ e ∷ []) ++ more =
    ap (λ (ps : List Expr). ps ++ e ∷ more) (append-nil frame.parts) ∙ sym (append_assoc frame.parts (e ∷ []) more) in
    let count : IsCount frame.form (length frame.heads) (length (frame.parts ++ e ∷ more)) =
    counts frame.form frame.heads (frame.parts ++ e ∷ more) made
    (ap (λ (hs : List ℕ). made_of frame.form hs (frame.parts ++ e ∷ more)) (sym (append-nil frame.heads))
    ∙ ap (λ (ps : List Expr). made_of frame.form (frame.heads ++ []) (ps ++ e ∷ more)) (sym (append-nil frame.parts)) ∙ makes) in
    let longer : length frame.parts < length (frame.parts ++ e ∷ more) = simp length-append (omega arith) in
    let next : Completes frame (e ∷ []) (operands frame.form frame.nesting [] more ++ last_of made ∷ []) (handed_by made) = record {
      heads = [];
      parts = more;
      made = made;
      makes = ap (made_of frame.form (frame.heads ++ [])) (sym same) ∙ makes;
      in_order = inl refl;
      wants = refl;
      hands = refl;
    } in
    part_complete frame e item stack _ (wants_head-none frame.form _ _ _ count longer) (wants_part-next frame.form _ _ _ count longer)
    (_, handed_by made, rest, next, refl, fills) r

-- a derivation from what operands may want goes through what the machine makes of its first item
pub inside_complete : {most : ℕ} {items : List Item} {known known' : Known} {wanted' : List Wanted} (frame : Frame) (first : List Wanted) (handed : List Expr)
    (item : Item) (stack : List Symbol) (rest : List Wanted)
    → Completes frame [] first handed → Fills handed stack rest → Leads most known (first ++ rest) (item ∷ items) known' wanted'
    → Goes most items known' wanted' (inside_taken known frame item stack)
inside_complete frame first handed item stack rest c fills r =
    operands_complete frame c.heads c.parts c.made item stack rest c.makes c.in_order (subst (λ (es : List Expr). Fills es stack rest) c.hands fills)
    (lined rest c.wants r)
