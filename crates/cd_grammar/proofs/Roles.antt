-- Where a symbol wants a role, some document has one there.
use Rattle.std.proofs.Common.{◌≡◌, ℕ, ◌+◌, Bool, true, false, List, [], ◌∷◌, ◌++◌, length, refl, sym, ap, subst, arith, length-append}
use Rattle.std.proofs.lemmas.List.{nil_from_length}
use Rattle.cd_meaning.specs.declared.expression.Expr.{Expr}
use Rattle.cd_syntax.specs.declared.known.Known.{Known}
use Rattle.cd_grammar.specs.declared.symbol.Frame.{Frame}
use Rattle.cd_grammar.specs.declared.symbol.Symbol.{Symbol}
use Rattle.cd_grammar.specs.declared.symbol.Symbol.TheVariants.{Inside}
use Rattle.cd_syntax.specs.declared.words.AxiomForm.{AxiomForm}
use Rattle.cd_syntax.specs.declared.words.Form.{Form}
use Rattle.cd_grammar.specs.Causes.{wants_role_next}
use Rattle.cd_syntax.specs.Grammar.{nesting}
use Rattle.cd_syntax.proofs.ItemGrammar.{Wanted, RoleOf, AxiomIn, Leads, head_of}
use Rattle.cd_grammar.specs.Machine.{bare, with_head, wants_head_next}
use Rattle.cd_syntax.specs.Operands.{has_class_head}
use Rattle.cd_grammar.proofs.Begins.{role_at}
use Rattle.cd_grammar.proofs.Closable.{head_pending}
use Rattle.cd_grammar.proofs.Closes.{IsClosable, closes}
use Rattle.cd_grammar.proofs.SoundOperands.{axiom_line, head_completes}
use Rattle.cd_grammar.proofs.Fills.{Completes, Fills}
use Rattle.cd_grammar.proofs.Pending.{IsPending, headed, handed_on, finishes}

-- the operands may go on with a role
abbrev MayGoOn : Frame → Type 0
MayGoOn frame = (first : List Wanted) × (handed : List Expr) × Completes frame [] (RoleOf 0 ∷ first) handed × (length handed ≡ handed_on frame.form)

-- operands that want a role may go on with one
may_go_on : (known : Known) (frame : Frame) → wants_role_next frame ≡ true → MayGoOn frame
may_go_on known frame wants =
    let head : wants_head_next frame ≡ true = grind arith in
    let role : has_class_head frame.form ≡ false = grind arith in
    let none : frame.parts ≡ [] = nil_from_length frame.parts (grind arith) in
    let size : length frame.parts + 0 ≡ length (frame.parts ++ []) = omega (arith, length-append frame.parts []) in
    let (first, handed, items, after, completes, many, leads) = finishes nesting known (with_head frame 0) []
    (subst (IsPending frame.form (length (frame.heads ++ 0 ∷ []))) size (head_pending frame 0 head)) in
    let is : head_of frame.form 0 ≡ RoleOf 0 = ap (λ (is_class : Bool). headed is_class 0) role in
    (first, handed, subst (λ (w : Wanted). Completes frame [] (w ∷ first) handed) is (head_completes frame 0 first handed none completes), many)

-- what the stack wants may begin with a role, once lines are chosen
abbrev pub WantsRole : Known → List Symbol → Type 0
WantsRole known stack = (wanted : List Wanted) × Fills [] stack wanted × (rest : List Wanted) × Leads nesting known wanted [] known (RoleOf 0 ∷ rest)

-- an axiom that begins with a role
axiom_role : (known : Known) (form : AxiomForm) (stack : List Symbol) → wants_role_next (bare (Form.Axiom form) nesting) ≡ true → IsClosable 0 stack
    → WantsRole known (Symbol.AxiomIn form ∷ stack)
axiom_role known form stack wants closable =
    let (first, handed, completes, many) = may_go_on known (bare (Form.Axiom form) nesting) wants in
    let (a, none, l, made) = axiom_line form nesting (RoleOf 0 ∷ first) handed completes in
    let (rest, items, known', fills, leads) = closes nesting stack [] closable known in
    (AxiomIn form a ∷ rest, (AxiomIn form a ∷ [], [], rest, ((a, made, refl), refl), refl, fills), first ++ rest, Leads.line (RoleOf 0 ∷ first) l Leads.here)

-- operands behind which a role may stand
inside_role : (known : Known) (frame : Frame) (stack : List Symbol) → wants_role_next frame ≡ true → IsClosable (handed_on frame.form) stack
    → WantsRole known (Inside frame ∷ stack)
inside_role known frame stack wants closable =
    let (first, handed, completes, many) = may_go_on known frame wants in
    let (rest, items, known', fills, leads) = closes nesting stack handed (subst (λ (n : ℕ). IsClosable n stack) (sym many) closable) known in
    ((RoleOf 0 ∷ first) ++ rest, (RoleOf 0 ∷ first, handed, rest, completes, refl, fills), first ++ rest, Leads.here)

-- each stack whose first symbol wants a role
pub wants_role-stack : (known : Known) (stack : List Symbol) → role_at stack ≡ true → IsClosable 0 stack → WantsRole known stack
wants_role-stack known (Symbol.AxiomIn form ∷ stack) wants closable = axiom_role known form stack wants closable.1
wants_role-stack known (Inside frame ∷ stack) wants closable = inside_role known frame stack wants closable.1
wants_role-stack known [] wants closable = absurd cc
wants_role-stack known (symbol ∷ stack) wants closable = absurd cc
