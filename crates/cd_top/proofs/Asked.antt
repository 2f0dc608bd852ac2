-- What the words ask is one command, under limits of the same numbers.
use Rattle.std.proofs.Common.{◌≡◌, ℕ, suc, List, subst, ap, sym, refl, ◌∙◌, arith}
use Rattle.std.specs.Prelude.{Option, Some, None, IfSome}
use Rattle.cd_base.specs.declared.limits.Limits.{Limits}
use Rattle.cd_words.specs.declared.request.AskFault.{AskFault}
use Rattle.cd_words.specs.declared.request.Command.{Command}
use Rattle.cd_words.specs.declared.request.Command.TheVariants.{Classify, Trial}
use Rattle.cd_words.specs.Form.{Bytes, Asks, AsksOnly, HaveSameNumbers}
use Rattle.cd_top.specs.declared.status.Status.TheVariants.{Memory}
use Rattle.cd_top.specs.Stops.{status_of, stop_of_words}

-- a number for each command
abbrev code : Command → ℕ
code Classify = 0
code (Trial n) = suc n

abbrev levels_of : Command → ℕ
levels_of Classify = 0
levels_of (Trial n) = n

-- what is said of the one limits is said of the others
same_numbers : (P : ℕ → ℕ → ℕ → Type 0) (one other : Limits) → HaveSameNumbers one other → P other.max_bytes other.max_contexts other.max_facts → P one.max_bytes one.max_contexts one.max_facts
same_numbers P one other same p =
    subst (λ z. P one.max_bytes one.max_contexts z) (sym same.max_facts)
    (subst (λ z. P one.max_bytes z other.max_facts) (sym same.max_contexts) (subst (λ z. P z other.max_contexts other.max_facts) (sym same.max_bytes) p))

module _ (words : List Bytes) (command : Command) (limits : Limits) (only : AsksOnly words command limits) where
  pub not_trial : command ≡ Classify → (n : ℕ) (others : Limits) → Asks words (Trial n) others → ⊥
  not_trial is n others asks = let e : suc n ≡ 0 = ap code ((only (Trial n) others asks).0 ∙ is) in absurd (omega (arith, e))

  pub not_classify : (n : ℕ) → command ≡ Trial n → (others : Limits) → Asks words Classify others → ⊥
  not_classify n is others asks = let e : 0 ≡ suc n = ap code ((only Classify others asks).0 ∙ is) in absurd (omega (arith, e))

  -- what is said of the limits of the request is said of any under which the words ask to classify
  pub classify_too : (P : ℕ → ℕ → ℕ → Type 0) (others : Limits) → Asks words Classify others → P limits.max_bytes limits.max_contexts limits.max_facts → P others.max_bytes others.max_contexts others.max_facts
  classify_too P others asks p = same_numbers P others limits (only Classify others asks).1 p

  -- and likewise for a trial, with its levels
  pub trial_too : (m : ℕ) → command ≡ Trial m → (P : ℕ → ℕ → ℕ → Type 0) (n : ℕ) (others : Limits) → Asks words (Trial n) others → P m limits.max_contexts limits.max_facts → P n others.max_contexts others.max_facts
  trial_too m is P n others asks p =
      let same = only (Trial n) others asks in
      let levels : m ≡ n = sym (ap levels_of (same.0 ∙ is)) in
      same_numbers (λ bytes contexts facts. P n contexts facts) others limits same.1 (subst (λ z. P z limits.max_contexts limits.max_facts) levels p)

-- a fault that is not that of words outside the form is want of memory
pub memory_ends : (fault : AskFault) (Formed : Type 0) → (fault ≡ AskFault.Usage → Formed → ⊥) → Formed → status_of (stop_of_words fault) ≡ Memory
memory_ends AskFault.Usage Formed outside formed = absurd (outside refl formed)
memory_ends AskFault.Memory Formed outside formed = refl

-- what holds of every value holds of the one that may be there
pub if_some : {X : Type 0} (o : Option X) (P : X → Type 0) → ((x : X) → P x) → IfSome o P
if_some None P all = tt
if_some (Some x) P all = all x
