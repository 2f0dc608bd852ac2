-- An answerable input is answered unless a fault rose or memory ran out.
use Rattle.std.proofs.Common.{◌≡◌, ◌⊎◌, ℕ, List, refl, sym, ap, ◌∙◌, inl, inr, arith}
use Rattle.std.specs.Prelude.{Option, Some, None, IfSome}
use Rattle.cd_base.specs.declared.limit_kind.LimitKind.{LimitKind}
use Rattle.cd_syntax.specs.declared.refusal.Refusal.{Refusal}
use Rattle.cd_syntax.specs.declared.refusal.Refusal.TheVariants.{Syntax, Construct, Prefix, Depth, TooLong}
use Rattle.cd_meaning.specs.declared.document.Document.{Document}
use Rattle.cd_syntax.specs.Grammar.{IsRead}
use Rattle.cd_syntax.specs.Refusal.{IsRefused}
use Rattle.cd_top.specs.declared.status.Status.{Status}
use Rattle.cd_top.specs.declared.status.Status.TheVariants.{Done, Refused, Usage, Limit, ReadFault, WriteFault, Memory}
use Rattle.cd_grammar.proofs.OneReading.{one_refusal}
use Rattle.cd_top.specs.Headline.{IsAccepted, IsAnswerable, IsAnswered, IsClassified, IsLimited, IsPartlyAnswered}

not_refused : (input : List ℕ) (most : ℕ) (refusal : Refusal) → IsAccepted input most → IsRefused input most refusal → ⊥
not_refused input most (TooLong n) accepted refused = let short = accepted.0 in let long = refused.0 in absurd (omega arith)
not_refused input most (Syntax place) accepted refused = refused.2 accepted.2.0 accepted.2.1
not_refused input most (Construct number place) accepted refused = refused.2 accepted.2.0 accepted.2.1
not_refused input most (Prefix place) accepted refused = refused.2 accepted.2.0 accepted.2.1
not_refused input most (Depth place) accepted refused = refused.2 accepted.2.0 accepted.2.1

-- what else a status tells
abbrev pub Ends : Status → Type 0
Ends status = (status ≡ Done) ⊎ (status ≡ Memory)

pub by_status : (status : Status) → ((refusal : Refusal) → status ≡ Refused refusal → ⊥) → ((kind : LimitKind) (number : ℕ) → status ≡ Limit kind number → ⊥) → (status ≡ Usage → ⊥)
    → (status ≡ ReadFault → ⊥) → (status ≡ WriteFault → ⊥) → Ends status
by_status Done refused limit usage read write = inl refl
by_status Memory refused limit usage read write = inr refl
by_status (Refused refusal) refused limit usage read write = absurd (refused refusal refl)
by_status (Limit kind number) refused limit usage read write = absurd (limit kind number refl)
by_status Usage refused limit usage read write = absurd (usage refl)
by_status ReadFault refused limit usage read write = absurd (read refl)
by_status WriteFault refused limit usage read write = absurd (write refl)

pub complete : (left : Option (List ℕ)) (most max_contexts max_facts : ℕ) (status : Status) (R W : Type 0)
    → IfSome left (λ input. (refusal : Refusal) → status ≡ Refused refusal → IsRefused input most refusal)
    → IfSome left (λ input. (kind : LimitKind) (number : ℕ) → status ≡ Limit kind number → IsLimited input most max_contexts max_facts kind number)
    → (status ≡ Usage → ⊥) → (status ≡ ReadFault → R) → (status ≡ WriteFault → W)
    → IfSome left (λ input. IsAnswerable input most max_contexts max_facts → (R → ⊥) → (W → ⊥) → Ends status)
complete None most mc mf status R W refused limit usage read write = tt
complete (Some input) most mc mf status R W refused limit usage read write = λ answerable no_read no_write.
    by_status status (λ refusal is. not_refused input most refusal answerable.accepted (refused refusal is)) (λ kind number is. answerable.unlimited kind number (limit kind number is)) usage
    (λ is. no_read (read is)) (λ is. no_write (write is))

-- ---- refusals

-- an input with an answer is a document
accepted_text : (input text : List ℕ) → IsAnswered input text → (document : Document) × IsRead input document
accepted_text input text answered = (answered.0, answered.1)

-- an input is refused in one way
one_refused : (input : List ℕ) (most : ℕ) (r s : Refusal) → IsRefused input most r → IsRefused input most s → r ≡ s
one_refused input most (TooLong n) (TooLong m) first second = ap TooLong (first.1 ∙ sym second.1)
one_refused input most (TooLong n) s first second = let long = first.0 in let short = second.0 in absurd (omega arith)
one_refused input most r (TooLong m) first second = let short = first.0 in let long = second.0 in absurd (omega arith)
one_refused input most r s first second = one_refusal input r s first.1 second.1

-- the status is this refusal, or memory ran out
abbrev pub Refuses : Refusal → Status → Type 0
Refuses refusal status = (status ≡ Refused refusal) ⊎ (status ≡ Memory)

refuses : (input : List ℕ) (most : ℕ) (refusal : Refusal) (status : Status) → IsRefused input most refusal
    → (status ≡ Done → IsAccepted input most) → ((r : Refusal) → status ≡ Refused r → IsRefused input most r)
    → ((kind : LimitKind) (number : ℕ) → status ≡ Limit kind number → IsAccepted input most) → (status ≡ Usage → ⊥) → (status ≡ ReadFault → ⊥)
    → (status ≡ WriteFault → IsAccepted input most) → Refuses refusal status
refuses input most refusal Done is done refused limit usage read write = absurd (not_refused input most refusal (done refl) is)
refuses input most refusal Memory is done refused limit usage read write = inr refl
refuses input most refusal (Refused r) is done refused limit usage read write = inl (ap Refused (one_refused input most r refusal (refused r refl) is))
refuses input most refusal (Limit kind number) is done refused limit usage read write = absurd (not_refused input most refusal (limit kind number refl) is)
refuses input most refusal Usage is done refused limit usage read write = absurd (usage refl)
refuses input most refusal ReadFault is done refused limit usage read write = absurd (read refl)
refuses input most refusal WriteFault is done refused limit usage read write = absurd (not_refused input most refusal (write refl) is)

-- an input that is refused gives just that refusal, unless a fault rose or memory ran out
pub refused_where : (left : Option (List ℕ)) (most max_contexts max_facts : ℕ) (status : Status) (after old new : Option (List ℕ)) (R : Type 0)
    → IfSome left (λ input. status ≡ Done → IsClassified input most after old new)
    → IfSome left (λ input. (refusal : Refusal) → status ≡ Refused refusal → IsRefused input most refusal)
    → IfSome left (λ input. (kind : LimitKind) (number : ℕ) → status ≡ Limit kind number → IsLimited input most max_contexts max_facts kind number)
    → (status ≡ Usage → ⊥) → (status ≡ ReadFault → R)
    → IfSome left (λ input. status ≡ WriteFault → IsPartlyAnswered input most old new)
    → IfSome left (λ input. (refusal : Refusal) → IsRefused input most refusal → (R → ⊥) → Refuses refusal status)
refused_where None most mc mf status after old new R done refused limit usage read partly = tt
refused_where (Some input) most mc mf status after old new R done refused limit usage read partly = λ refusal is no_read.
    refuses input most refusal status is
    (λ e. let d = done e in let a = accepted_text input d.answered.0 d.answered.1 in (d.within, a.0, a.1)) refused
    (λ kind number e. let l = limit kind number e in (l.0, l.1, l.2)) usage (λ e. no_read (read e))
    (λ e. let p = partly e in let a = accepted_text input p.answered.0 p.answered.1 in (p.within, a.0, a.1))
