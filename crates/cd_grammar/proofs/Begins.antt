-- What is wanted first, and what lines make of it.
use Rattle.std.proofs.Common.{◌≡◌, ◌⊎◌, ℕ, zero, suc, ◌<◌, Bool, true, false, not, ◌&&◌, List, [], ◌∷◌, ◌++◌, map, length, refl, sym, ap, ◌∙◌, subst, inl, inr, arith, append-nil, length-append}
use Rattle.std.specs.Prelude.{Some}
use Rattle.std.specs.Option.{option_map}
use Rattle.cd_meaning.specs.declared.expression.Axiom.{Axiom}
use Rattle.cd_meaning.specs.declared.expression.Expr.{Expr}
use Rattle.cd_syntax.specs.declared.item.Item.{Item}
use Rattle.cd_syntax.specs.declared.item.Item.TheVariants.{FullIri}
use Rattle.cd_syntax.specs.declared.known.Known.{Known}
use Rattle.cd_syntax.specs.declared.operands.Made.{Made}
use Rattle.cd_grammar.specs.declared.symbol.Frame.{Frame}
use Rattle.cd_grammar.specs.declared.symbol.Symbol.{Symbol}
use Rattle.cd_grammar.specs.declared.symbol.Symbol.TheVariants.{Inside}
use Rattle.cd_syntax.specs.declared.words.AxiomForm.{AxiomForm}
use Rattle.cd_syntax.specs.declared.words.Form.{Form}
use Rattle.cd_grammar.specs.Causes.{wants_role_next, wants_role, is_prefix_iri}
use Rattle.cd_syntax.proofs.ItemGrammar.{Wanted, PrefixIri, RoleOf, ClosingOf, AxiomIn, ExprOf, Line, Leads, IsAnnotated, IsBuilt, head_of, operands}
use Rattle.cd_syntax.specs.Operands.{heads_of, has_more_heads, wants_head, has_class_head, axiom_of, made_of}
use Rattle.cd_grammar.specs.Machine.{bare}
use Rattle.cd_syntax.proofs.Counts.{IsCount, counts}
use Rattle.cd_grammar.proofs.Fills.{Completes, last_of, Wants, Fills}
use Rattle.cd_grammar.proofs.Pending.{headed}

-- a role is wanted first, or an axiom's operands that may begin with one
abbrev pub begins_with_role : List Wanted → Bool
begins_with_role (RoleOf r ∷ wanted) = true
begins_with_role (AxiomIn form a ∷ wanted) = wants_role (Symbol.AxiomIn form)
begins_with_role wanted = false

-- the IRI of a prefix is wanted first
abbrev pub begins_with_prefix : List Wanted → Bool
begins_with_prefix (PrefixIri p ∷ wanted) = true
begins_with_prefix wanted = false

-- what is wanted first, once lines were chosen, was so before
abbrev pub Begins : List Wanted → List Wanted → Type 0
Begins wanted wanted' = (begins_with_role wanted' ≡ true → begins_with_role wanted ≡ true) × (begins_with_prefix wanted' ≡ true → begins_with_prefix wanted ≡ true)

-- an annotation
noted_begins : (n : ℕ) (w : Wanted) (parts rest : List Wanted) → IsAnnotated n w parts → Begins (w ∷ rest) (parts ++ rest)
noted_begins zero w parts rest l = absurd l
noted_begins (suc n) w parts rest l = grind arith

-- an expression with operands
built_begins : (n : ℕ) (e : Expr) (parts rest : List Wanted) → IsBuilt n e parts → Begins (ExprOf n e ∷ rest) (parts ++ rest)
built_begins zero e parts rest l = absurd l
built_begins (suc n) e parts rest l = grind arith

-- ---- operands

-- operands that make something have as many heads as their form, or more if it may
heads_by : (form : Form) (heads parts : ℕ) (more : Bool) → has_more_heads form ≡ more → IsCount form heads parts → (heads ≡ heads_of form) ⊎ (has_more_heads form ≡ true)
heads_by form heads parts true is count = inr is
heads_by form heads parts false is count = let few = count.few_heads is in let enough = count.enough_heads in inl (omega arith)

made_heads : (form : Form) (heads : List ℕ) (parts : List Expr) (made : Made) → made_of form heads parts ≡ Some made
    → (length heads ≡ heads_of form) ⊎ (has_more_heads form ≡ true)
made_heads form heads parts made is = heads_by form (length heads) (length parts) (has_more_heads form) refl (counts form heads parts made is)

-- a head that is a role is no class
role_head : (is_class : Bool) (h : ℕ) (wanted : List Wanted) → begins_with_role (headed is_class h ∷ wanted) ≡ true → is_class ≡ false
role_head true h wanted is = absurd cc
role_head false h wanted is = refl

-- no head is the IRI of a prefix
prefix_head : (is_class : Bool) (h : ℕ) (wanted : List Wanted) → begins_with_prefix (headed is_class h ∷ wanted) ≡ true → ⊥
prefix_head true h wanted is = cc
prefix_head false h wanted is = cc

-- operands that begin with a role have one
operand_role : (form : Form) (n : ℕ) (heads : List ℕ) (parts : List Expr) (made : Made) (rest : List Wanted)
    → begins_with_role ((operands form n heads parts ++ last_of made ∷ []) ++ rest) ≡ true → (has_class_head form ≡ false) × (0 < length heads)
operand_role form n [] [] (Made.Axiom a) rest is = absurd cc
operand_role form n [] [] (Made.Expr e) rest is = absurd cc
operand_role form n [] (e ∷ parts) made rest is = absurd cc
operand_role form n (h ∷ heads) parts made rest is =
    (role_head (has_class_head form) h (((map (head_of form) heads ++ map (ExprOf n) parts) ++ last_of made ∷ []) ++ rest) is, omega arith)

-- no operands begin with the IRI of a prefix
operand_prefix : (form : Form) (n : ℕ) (heads : List ℕ) (parts : List Expr) (made : Made) (rest : List Wanted)
    → begins_with_prefix ((operands form n heads parts ++ last_of made ∷ []) ++ rest) ≡ true → ⊥
operand_prefix form n [] [] (Made.Axiom a) rest is = cc
operand_prefix form n [] [] (Made.Expr e) rest is = cc
operand_prefix form n [] (e ∷ parts) made rest is = cc
operand_prefix form n (h ∷ heads) parts made rest is =
    prefix_head (has_class_head form) h (((map (head_of form) heads ++ map (ExprOf n) parts) ++ last_of made ∷ []) ++ rest) is

-- a head more, before any part
head_wanted : (form : Form) (heads more : List ℕ) (parts : List Expr) → 0 < length more → (more ≡ []) ⊎ (parts ++ [] ≡ [])
    → (length (heads ++ more) ≡ heads_of form) ⊎ (has_more_heads form ≡ true) → wants_head form (length heads) (length parts) ≡ true
head_wanted form heads more parts some order made = let sizes = simp length-append at made in grind (arith, append-nil)

-- operands that may go on with a role want one
completes_role : (frame : Frame) (wanted rest : List Wanted) (handed : List Expr) → Completes frame [] wanted handed → begins_with_role (wanted ++ rest) ≡ true
    → wants_role_next frame ≡ true
completes_role frame wanted rest handed completes is =
    let (role, some) = operand_role frame.form frame.nesting completes.heads completes.parts completes.made rest
    (subst (λ (w : List Wanted). begins_with_role (w ++ rest) ≡ true) completes.wants is) in
    let made = made_heads frame.form (frame.heads ++ completes.heads) ((frame.parts ++ []) ++ completes.parts) completes.made completes.makes in
    let wants = head_wanted frame.form frame.heads completes.heads frame.parts some completes.in_order made in
    ap (λ (b : Bool). b && not (has_class_head frame.form)) wants ∙ ap not role

-- no operands go on with the IRI of a prefix
completes_prefix : (frame : Frame) (wanted rest : List Wanted) (handed : List Expr) → Completes frame [] wanted handed → begins_with_prefix (wanted ++ rest) ≡ true → ⊥
completes_prefix frame wanted rest handed completes is =
    operand_prefix frame.form frame.nesting completes.heads completes.parts completes.made rest (subst (λ (w : List Wanted). begins_with_prefix (w ++ rest) ≡ true) completes.wants is)

-- ---- lines

-- a line of an axiom is what its operands may be
line_completes : (most : ℕ) (form : AxiomForm) (a : Axiom) (heads : List ℕ) (inner : List Expr) (wanted : List Wanted) → axiom_of form heads inner ≡ Some a
    → wanted ≡ operands (Form.Axiom form) most heads inner ++ ClosingOf a ∷ [] → Completes (bare (Form.Axiom form) most) [] wanted []
line_completes most form a heads inner wanted is line =
    record { heads = heads; parts = inner; made = Made.Axiom a; makes = ap (option_map Made.Axiom) is; in_order = inr refl; wants = line; hands = refl }

-- a line begins with a role, or the IRI of a prefix, only where that was wanted
line_begins : (most : ℕ) (w : Wanted) (parts rest : List Wanted) → Line most w parts → Begins (w ∷ rest) (parts ++ rest)
line_begins most (AxiomIn form a) parts rest (inl l) = noted_begins most (AxiomIn form a) parts rest l
line_begins most (AxiomIn form a) parts rest (inr (heads, inner, is, l)) =
    let completes = line_completes most form a heads inner parts is l in
    (λ h. completes_role (bare (Form.Axiom form) most) parts rest [] completes h, λ h. absurd (completes_prefix (bare (Form.Axiom form) most) parts rest [] completes h))
line_begins most w parts rest l = grind (arith, noted_begins, built_begins)

-- before the next item, what is known stays
pub known_stays : (most : ℕ) (known : Known) (wanted : List Wanted) (known' : Known) (wanted' : List Wanted) → Leads most known wanted [] known' wanted' → known' ≡ known
known_stays most known wanted known' wanted' Leads.here = refl
known_stays most known wanted known' wanted' (Leads.line {wanted = rest} parts l r) = known_stays most known (parts ++ rest) known' wanted' r

-- before the next item, a role or the IRI of a prefix is wanted first only where it was
pub leads_begins : (most : ℕ) (known : Known) (wanted : List Wanted) (known' : Known) (wanted' : List Wanted) → Leads most known wanted [] known' wanted'
    → Begins wanted wanted'
leads_begins most known wanted known' wanted' Leads.here = (λ h. h, λ h. h)
leads_begins most known wanted known' wanted' (Leads.line {w = w} {wanted = rest} parts l r) =
    let below = leads_begins most known (parts ++ rest) known' wanted' r in
    let above = line_begins most w parts rest l in
    (λ h. above.0 (below.0 h), λ h. above.1 (below.1 h))

-- ---- symbols

-- what is wanted first is wanted by the symbol
abbrev Asks : Symbol → List Wanted → Type 0
Asks symbol wanted = (begins_with_role wanted ≡ true → wants_role symbol ≡ true) × (begins_with_prefix wanted ≡ true → (i : List ℕ) → is_prefix_iri symbol (FullIri i) ≡ true)

-- a symbol wants what it may want first
asks : (symbol : Symbol) (first rest : List Wanted) (handed : List Expr) → Wants symbol [] first handed → Asks symbol (first ++ rest)
asks (Inside frame) first rest handed completes =
    (λ h. completes_role frame first rest handed completes h, λ h. absurd (completes_prefix frame first rest handed completes h))
asks symbol first rest handed wants = grind arith

-- a role is wanted at the stack, maybe beside other things
abbrev pub role_at : List Symbol → Bool
role_at [] = false
role_at (symbol ∷ stack) = wants_role symbol

-- a full IRI where the stack wants that of a prefix
abbrev pub prefix_at : List Symbol → Item → Bool
prefix_at [] item = false
prefix_at (symbol ∷ stack) item = is_prefix_iri symbol item

-- what the stack may want first is wanted by its first symbol
pub stack_asks : (stack : List Symbol) (wanted : List Wanted) → Fills [] stack wanted
    → (begins_with_role wanted ≡ true → role_at stack ≡ true) × (begins_with_prefix wanted ≡ true → (i : List ℕ) → prefix_at stack (FullIri i) ≡ true)
stack_asks [] wanted fills = grind arith
stack_asks (symbol ∷ stack) wanted (first, handed, rest, wants, whole, fills) = subst (Asks symbol) (sym whole) (asks symbol first rest handed wants)
