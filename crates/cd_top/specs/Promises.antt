-- What each command promises of a run beside its headline, a record each. `ReadFailed` and `WriteFailed` say that the count of faults of the
-- source, or of the sink, rose in the run.
use Rattle.std.specs.Prelude.{◌≡◌, ◌⊎◌, ℕ, Bool, true, List, Option, IfSome}
use Rattle.cd_base.specs.declared.limit_kind.LimitKind.{LimitKind}
use Rattle.cd_syntax.specs.Refusal.{IsRefused}
use Rattle.cd_syntax.specs.declared.refusal.Refusal.{Refusal}
use Rattle.cd_top.specs.Headline.{IsAnswerable, IsLimited, IsPartlyAnswered}
use Rattle.cd_top.specs.Trial.{IsTried, IsPartlyTried, IsTrialLimited, IsTrialAnswerable}
use Rattle.cd_top.specs.declared.status.Status.{Status}
use Rattle.cd_top.specs.declared.status.Status.TheVariants.{Done, Refused, Limit, ReadFault, WriteFault, Memory}

-- the classify command under these limits: `left` is the input, `told` says that its end was told, and the sink had the old bytes and has the new
pub record IsClassifiedBy (most max_contexts max_facts : ℕ) (left : Option (List ℕ)) (told : Bool)
    (ReadFailed WriteFailed : Type 0) (old new : Option (List ℕ)) (status : Status) : Type 0 where
  -- at Done the last read told the end of the input
  pub ended : status ≡ Done → told ≡ true
  -- a maximum is told only where it is reached
  pub limit : IfSome left (λ input. (kind : LimitKind) (number : ℕ) → status ≡ Limit kind number
      → IsLimited input most max_contexts max_facts kind number)
  -- an accepted input by which no maximum is reached is answered unless a fault rose or memory ran out
  pub complete : IfSome left (λ input. IsAnswerable input most max_contexts max_facts
      → (ReadFailed → ⊥) → (WriteFailed → ⊥) → (status ≡ Done) ⊎ (status ≡ Memory))
  -- an input that is refused gives just that refusal, with its kind and place, unless a fault rose or memory ran out
  pub refused_where : IfSome left (λ input. (refusal : Refusal) → IsRefused input most refusal
      → (ReadFailed → ⊥) → (status ≡ Refused refusal) ⊎ (status ≡ Memory))
  -- after a fault of the sink a front of the answer was added
  pub partly : IfSome left (λ input. status ≡ WriteFault → IsPartlyAnswered input most old new)

-- the trial command for so many levels under these maxima: the sink had the old bytes and has the new
pub record IsTriedBy (levels max_contexts max_facts : ℕ) (WriteFailed : Type 0)
    (old new : Option (List ℕ)) (status : Status) : Type 0 where
  -- at Done exactly one text was added: the summary of what the generated document entails
  pub tried : status ≡ Done → IsTried levels old new
  -- a maximum is told only where it is reached
  pub limit : (kind : LimitKind) (number : ℕ) → status ≡ Limit kind number
      → IsTrialLimited levels max_contexts max_facts kind number
  -- where no maximum can be reached it is done, unless a fault rose or memory ran out
  pub complete : IsTrialAnswerable levels max_contexts max_facts → (WriteFailed → ⊥)
      → (status ≡ Done) ⊎ (status ≡ Memory)
  -- after a fault of the sink a front of the summary was added
  pub partly : status ≡ WriteFault → IsPartlyTried levels old new
  -- no status tells of the input
  pub unrefused : (refusal : Refusal) → status ≡ Refused refusal → ⊥
  pub read_fault : status ≡ ReadFault → ⊥
