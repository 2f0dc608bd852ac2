-- What a stop, and the status that it ends with, tell of where they came from.
use Rattle.std.proofs.Common.{◌≡◌, ◌≢◌, ◌⊎◌, ℕ, inl, inr, refl, sym, ap, ◌∙◌, arith}
use Rattle.std.specs.Prelude.{Result, Ok, Err, OnOk, IfOk, IfErr}
use Rattle.cd_grammar.specs.declared.input.ReadRefusal.{ReadRefusal}
use Rattle.cd_saturation.specs.declared.halt.Halt.{Halt}
use Rattle.cd_top.specs.Status.{code_of}
use Rattle.cd_top.specs.Stops.{status_of, stop_of_reading, stop_of_halt}
use Rattle.cd_top.specs.declared.status.Status.{Status}
use Rattle.cd_top.specs.declared.status.Status.TheVariants.{Done, WriteFault}
use Rattle.cd_top.specs.declared.stop.Stop.{Stop}
use Rattle.cd_top.specs.declared.stop.Stop.TheVariants.{Refused, Usage, Limit, ReadFault, Memory}

-- a number for each stop
abbrev pub code : Stop → ℕ
code stop = code_of (status_of stop)

-- what a result tells of its stop
abbrev stop_in : {X : Type 0} → Result X Stop → Stop
stop_in (Ok x) = Memory
stop_in (Err stop) = stop

pub same_stop : {X : Type 0} (a b : Stop) → ◌≡◌ {A = Result X Stop} (Err a) (Err b) → a ≡ b
same_stop {X} a b e = ap (stop_in {X = X}) e

-- ---- the status of a stop

abbrev stop_of : Status → Stop
stop_of (Status.Refused refusal) = Refused refusal
stop_of Status.Usage = Usage
stop_of (Status.Limit kind number) = Limit kind number
stop_of Status.ReadFault = ReadFault
stop_of Status.WriteFault = Memory
stop_of Status.Done = Memory
stop_of Status.Memory = Memory

stop_back : (stop : Stop) → stop_of (status_of stop) ≡ stop
stop_back (Refused refusal) = refl
stop_back Usage = refl
stop_back (Limit kind number) = refl
stop_back ReadFault = refl
stop_back Memory = refl

-- no stop ends as a text does
not_done : (stop : Stop) → Done ≡ status_of stop → ⊥
not_done (Refused refusal) e = let n : 0 ≡ 1 = ap code_of e in absurd (omega (arith, n))
not_done Usage e = let n : 0 ≡ 2 = ap code_of e in absurd (omega (arith, n))
not_done (Limit kind number) e = let n : 0 ≡ 3 = ap code_of e in absurd (omega (arith, n))
not_done ReadFault e = let n : 0 ≡ 4 = ap code_of e in absurd (omega (arith, n))
not_done Memory e = let n : 0 ≡ 6 = ap code_of e in absurd (omega (arith, n))

not_fault : (stop : Stop) → WriteFault ≡ status_of stop → ⊥
not_fault (Refused refusal) e = let n : 5 ≡ 1 = ap code_of e in absurd (omega (arith, n))
not_fault Usage e = let n : 5 ≡ 2 = ap code_of e in absurd (omega (arith, n))
not_fault (Limit kind number) e = let n : 5 ≡ 3 = ap code_of e in absurd (omega (arith, n))
not_fault ReadFault e = let n : 5 ≡ 4 = ap code_of e in absurd (omega (arith, n))
not_fault Memory e = let n : 5 ≡ 6 = ap code_of e in absurd (omega (arith, n))

module _ {X : Type 0} where
  -- what the status tells of a stop is the stop that was found
  pub found_stop : (found : Result X Stop) (status : Status) → IfOk found (λ _. (status ≡ Done) ⊎ (status ≡ WriteFault)) → IfErr found (λ stop. status ≡ status_of stop)
      → (stop : Stop) → status ≡ status_of stop → found ≡ Err stop
  found_stop (Ok x) status text stopped stop is = elim text [ inl e ↦ absurd (not_done stop (sym e ∙ is)) | inr e ↦ absurd (not_fault stop (sym e ∙ is)) ]
  found_stop (Err s) status text stopped stop is = ap (λ (z : Stop). Err z) (sym (stop_back s) ∙ (ap stop_of (sym stopped ∙ is) ∙ stop_back stop))

  -- a text that was written was found
  pub found_text : (found : Result X Stop) (status : Status) (P R : X → Type 0) → IfErr found (λ stop. status ≡ status_of stop) → IfOk found P → IfOk found (λ x. status ≡ Done → R x) → status ≡ Done → (x : X) × P x × R x
  found_text (Ok x) status P R stopped p r done = (x, p, r done)
  found_text (Err s) status P R stopped p r done = absurd (not_done s (sym done ∙ stopped))

  -- and so was one of which a front was written
  pub found_front : (found : Result X Stop) (status : Status) (P R : X → Type 0) → IfErr found (λ stop. status ≡ status_of stop) → IfOk found P → IfOk found (λ x. status ≡ WriteFault → R x) → status ≡ WriteFault → (x : X) × P x × R x
  found_front (Ok x) status P R stopped p r failed = (x, p, r failed)
  found_front (Err s) status P R stopped p r failed = absurd (not_fault s (sym failed ∙ stopped))

  pub found_ok : (found : Result X Stop) (status : Status) (P : Type 0) → IfErr found (λ stop. status ≡ status_of stop) → OnOk found P → status ≡ Done → P
  found_ok (Ok x) status P stopped p done = p
  found_ok (Err s) status P stopped p done = absurd (not_done s (sym done ∙ stopped))

-- ---- the stop of a refusal

abbrev pub reading_of : Stop → ReadRefusal
reading_of (Refused refusal) = ReadRefusal.Refused refusal
reading_of ReadFault = ReadRefusal.ReadFault
reading_of Usage = ReadRefusal.Memory
reading_of (Limit kind number) = ReadRefusal.Memory
reading_of Memory = ReadRefusal.Memory

reading_back : (refusal : ReadRefusal) → reading_of (stop_of_reading refusal) ≡ refusal
reading_back (ReadRefusal.Refused refusal) = refl
reading_back ReadRefusal.ReadFault = refl
reading_back ReadRefusal.Memory = refl

-- a stop that was made of a refusal tells it
pub from_reading : {X Y : Type 0} (refusal : ReadRefusal) (made stop : Stop) → made ≡ stop_of_reading refusal → ◌≡◌ {A = Result X Stop} (Err made) (Err stop)
    → ◌≡◌ {A = Result Y ReadRefusal} (Err refusal) (Err (reading_of stop))
from_reading {X} refusal made stop is e = ap (λ (r : ReadRefusal). Err r) (sym (reading_back refusal) ∙ ap reading_of (sym is ∙ same_stop {X = X} made stop e))

-- and is no other
reading_code : (refusal : ReadRefusal) (n : ℕ) → code (stop_of_reading refusal) ≡ n → (n ≡ 1) ⊎ ((n ≡ 4) ⊎ (n ≡ 6))
reading_code (ReadRefusal.Refused refusal) n e = inl (sym e)
reading_code ReadRefusal.ReadFault n e = inr (inl (sym e))
reading_code ReadRefusal.Memory n e = inr (inr (sym e))

pub not_reading : {X : Type 0} (refusal : ReadRefusal) (made stop : Stop) → made ≡ stop_of_reading refusal → ◌≡◌ {A = Result X Stop} (Err made) (Err stop) → (n : ℕ) → code stop ≡ n → n ≢ 1 → n ≢ 4 → n ≢ 6 → ⊥
not_reading {X} refusal made stop is e n at one four six =
    elim (reading_code refusal n (ap code (sym is ∙ same_stop {X = X} made stop e) ∙ at)) [ inl k ↦ one k | inr r ↦ elim r [ inl k ↦ four k | inr k ↦ six k ] ]

-- ---- the stop of a halt

abbrev pub halt_of : Stop → Halt
halt_of (Limit kind number) = Halt.Limit kind number
halt_of (Refused refusal) = Halt.Memory
halt_of ReadFault = Halt.Memory
halt_of Usage = Halt.Memory
halt_of Memory = Halt.Memory

halt_back : (halt : Halt) → halt_of (stop_of_halt halt) ≡ halt
halt_back (Halt.Limit kind number) = refl
halt_back Halt.Memory = refl

pub from_halt : {X Y : Type 0} (halt : Halt) (made stop : Stop) → made ≡ stop_of_halt halt → ◌≡◌ {A = Result X Stop} (Err made) (Err stop)
    → ◌≡◌ {A = Result Y Halt} (Err halt) (Err (halt_of stop))
from_halt {X} halt made stop is e = ap (λ (h : Halt). Err h) (sym (halt_back halt) ∙ ap halt_of (sym is ∙ same_stop {X = X} made stop e))

halt_code : (halt : Halt) (n : ℕ) → code (stop_of_halt halt) ≡ n → (n ≡ 3) ⊎ (n ≡ 6)
halt_code (Halt.Limit kind number) n e = inl (sym e)
halt_code Halt.Memory n e = inr (sym e)

pub not_halt : {X : Type 0} (halt : Halt) (made stop : Stop) → made ≡ stop_of_halt halt → ◌≡◌ {A = Result X Stop} (Err made) (Err stop) → (n : ℕ) → code stop ≡ n → n ≢ 3 → n ≢ 6 → ⊥
not_halt {X} halt made stop is e n at three six = elim (halt_code halt n (ap code (sym is ∙ same_stop {X = X} made stop e) ∙ at)) [ inl k ↦ three k | inr k ↦ six k ]

-- ---- the stop for want of memory

pub not_memory : {X : Type 0} (made stop : Stop) → made ≡ Memory → ◌≡◌ {A = Result X Stop} (Err made) (Err stop) → (n : ℕ) → code stop ≡ n → n ≢ 6 → ⊥
not_memory {X} made stop is e n at six = six (sym at ∙ ap code (sym (same_stop {X = X} made stop e) ∙ is))
