-- What the bytes that a reader was fed tell of a whole input.
use Rattle.std.proofs.Common.{◌≡◌, ◌⊎◌, ◌≤◌, ◌<◌, ◌+◌, ◌^◌, ℕ, List, [], ◌++◌, length, sym, ap, subst, ◌∙◌, arith, append-nil, length-append, inl, inr}
use Rattle.std.proofs.lemmas.Bool.Decides.{nat_tests}
use Rattle.std.specs.Prelude.{Option, Some, None, Result, Ok, Err, IfSome}
use Rattle.std.specs.Io.KnownBytes.{Consumes, IsAtEnd}
use Rattle.cd_base.specs.Limits.{AreInRange}
use Rattle.cd_meaning.specs.declared.document.Document.{Document}
use Rattle.cd_syntax.specs.Bounds.{IsSmall}
use Rattle.cd_syntax.specs.declared.cause.Cause.{Cause}
use Rattle.cd_syntax.specs.declared.cause.Cause.TheVariants.{Construct, Prefix, Depth, Syntax}
use Rattle.cd_grammar.specs.declared.input.ReadRefusal.{ReadRefusal}
use Rattle.cd_grammar.specs.declared.input.ReadRefusal.TheVariants.{Refused, ReadFault, Memory}
use Rattle.cd_syntax.specs.declared.refusal.Refusal.{Refusal}
use Rattle.cd_syntax.specs.declared.refusal.Refusal.TheVariants.{TooLong}
use Rattle.cd_grammar.specs.Reading.{IsFinished}
use Rattle.cd_syntax.specs.Refusal.{refusal_at, IsRefused, IsFaulty, IsUnread}

-- where nothing is left, these bytes were all
pub whole : (left later : Option (List ℕ)) (fed : List ℕ) → Consumes left later fed → IsAtEnd later → IfSome left (λ input. (fed ≡ input) × (later ≡ Some []))
whole None later fed consumed end = tt
whole (Some input) None fed consumed end = absurd consumed
whole (Some input) (Some rest) fed consumed end =
    (sym (append-nil fed) ∙ ap (λ (bytes : List ℕ). fed ++ bytes) (sym end) ∙ sym consumed, ap Some end)

-- the input is no shorter than these bytes
pub at_least : (left later : Option (List ℕ)) (fed : List ℕ) → Consumes left later fed → IfSome left (λ input. length fed ≤ length input)
at_least None later fed consumed = tt
at_least (Some input) None fed consumed = absurd consumed
at_least (Some input) (Some rest) fed consumed = omega (arith, ap length consumed, length-append fed rest)

-- no fault of a text is its length
never_long : (cause : Cause) (place n : ℕ) → TooLong n ≡ refusal_at cause place → ⊥
never_long (Construct number) place n h = cc
never_long Prefix place n h = cc
never_long Depth place n h = cc
never_long Syntax place n h = cc

refused_in : (input : List ℕ) (most : ℕ) (refusal : Refusal) → length input ≤ most → IsFaulty input refusal → IsUnread input → IsRefused input most refusal
refused_in input most (TooLong n) short faulty unread = absurd (never_long faulty.3 _ n faulty.4.told)
refused_in input most refusal short faulty unread = (short, faulty, unread)

-- what holds of every input holds of one that is told
pub of_any : (left : Option (List ℕ)) {P : List ℕ → Type 0} → ((input : List ℕ) → P input) → IfSome left P
of_any None h = tt
of_any (Some input) h = h input

-- an error that is handed on is the same
pub same_error : {T U E : Type 0} (r : Result T E) (e y z : E) → r ≡ Err y → y ≡ e → r ≡ Err z → ◌≡◌ {A = Result U E} (Err e) (Err z)
same_error r e y z is same h = let k : e ≡ z = cc in ap Err k

-- more bytes came than are taken
pub too_long : {T : Type 0} (input : List ℕ) (most n : ℕ) (refusal : Refusal) → n ≤ length input → n ≡ most + 1
    → ◌≡◌ {A = Result T ReadRefusal} (Err (Refused (TooLong n))) (Err (Refused refusal)) → IsRefused input most refusal
too_long input most n refusal came over h =
    let same : TooLong n ≡ refusal = cc in subst (λ (r : Refusal). IsRefused input most r) same (omega arith, over)

-- a refusal of all of the input
pub refused_whole : (input fed : List ℕ) (most : ℕ) (refusal : Refusal) → length fed ≤ most → fed ≡ input → IsFinished fed (Err refusal) → IsRefused input most refusal
refused_whole input fed most refusal short same judged =
    subst (λ (bytes : List ℕ). IsRefused bytes most refusal) same (refused_in fed most refusal short judged.0 judged.1)

-- a document of all of the input
pub read_whole : (input fed : List ℕ) (document : Document) → fed ≡ input → IsFinished fed (Ok document) → IsFinished input (Ok document)
read_whole input fed document same finished = subst (λ (bytes : List ℕ). IsFinished bytes (Ok document)) same finished

pub unless : {A B : Type 0} → A ⊎ B → (B → ⊥) → A
unless (inl a) other = a
unless (inr b) other = absurd (other b)

-- a document of fewer bytes is a document of these
pub small_within : (document : Document) (n most : ℕ) → n ≤ most → IsSmall n document → IsSmall most document
small_within document n most short small = (omega (arith, small.0), omega (arith, small.1), omega (arith, small.2))

-- an error is the same of whatever was wanted
pub other_error : {T U E : Type 0} (e z : E) → ◌≡◌ {A = Result T E} (Err e) (Err z) → ◌≡◌ {A = Result U E} (Err e) (Err z)
other_error e z h = let k : e ≡ z = cc in ap Err k

-- ---- answers that differ

pub ok_is_no_error : {T E : Type 0} (t : T) (e : E) → ◌≡◌ {A = Result T E} (Ok t) (Err e) → ⊥
ok_is_no_error t e h = cc

pub memory_is_no_refusal : {T : Type 0} (refusal : Refusal) → ◌≡◌ {A = Result T ReadRefusal} (Err Memory) (Err (Refused refusal)) → ⊥
memory_is_no_refusal refusal h = cc

pub memory_is_no_fault : {T : Type 0} → ◌≡◌ {A = Result T ReadRefusal} (Err Memory) (Err ReadFault) → ⊥
memory_is_no_fault h = cc

pub refusal_is_no_fault : {T : Type 0} (refusal : Refusal) → ◌≡◌ {A = Result T ReadRefusal} (Err (Refused refusal)) (Err ReadFault) → ⊥
refusal_is_no_fault refusal h = cc

-- the refusals of one answer
pub same_refusal : {T : Type 0} (x y : Refusal) → ◌≡◌ {A = Result T ReadRefusal} (Err (Refused x)) (Err (Refused y)) → x ≡ y
same_refusal x y h = cc

-- ---- how many bytes come

-- limits of a run leave room for one byte more
pub few_bytes : (workers cells max_bytes max_contexts max_facts : ℕ) → AreInRange workers cells max_bytes max_contexts max_facts → max_bytes + 1 < 2 ^ 31
few_bytes workers cells max_bytes max_contexts max_facts h = grind (arith, nat_tests)
