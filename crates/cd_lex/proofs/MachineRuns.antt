-- A run of the machine, byte by byte, and how it stops at a fault.
use Rattle.std.proofs.Common.{◌≡◌, ℕ, ◌+◌, ◌<◌, ◌≤◌, Bool, true, false, List, length, get_or, take, drop, refl, sym, ap, subst, ◌∙◌, inl, inr, cond}
use Rattle.std.specs.Prelude.{Option, Some, None, is_some, IfSome}
use Rattle.std.proofs.lemmas.Bool.{true≢false, both_ways}
use Rattle.std.proofs.lemmas.List.{take-append-drop, take_all}
use Rattle.std.proofs.lemmas.List.Folds.{fold_stays}
use Rattle.std.proofs.lemmas.List.Sums.{fold_more, fold-append}
use Rattle.cd_lex.specs.declared.token.LexFault.{LexFault}
use Rattle.cd_lex.specs.declared.token.LexFault.TheVariants.{Memory}
use Rattle.cd_lex.specs.Machine.{State, IsRun, step, run, take_by, count}

step_stays : (s : State) (b : ℕ) → is_some s.fault ≡ true → step s b ≡ s
unfolding step
step_stays s b h = ap (λ (t : Bool). cond t s (count (take_by s.mode b s))) h

pub run_stays : (s : State) (bytes : List ℕ) → is_some s.fault ≡ true → run s bytes ≡ s
run_stays s bytes h = fold_stays step s (λ b. step_stays s b h) bytes

-- a run that has come to a fault is the run over all bytes
pub run_stopped : (s t : State) (piece : List ℕ) (i : ℕ) → IsRun (run s (take i piece)) t → is_some t.fault ≡ true → IsRun (run s piece) t
run_stopped s t piece i (inr out) h = inr out
run_stopped s t piece i (inl is) h =
    inl (sym (ap (run s) (sym (take-append-drop i piece)) ∙ fold-append step s (take i piece) (drop i piece)
    ∙ ap (λ (u : State). run u (drop i piece)) (sym is) ∙ run_stays t (drop i piece) h))

out_is_some : (t : State) → t.fault ≡ Some Memory → is_some t.fault ≡ true
out_is_some t h = ap is_some h

pub none_if : (o : Option LexFault) → is_some o ≡ false → o ≡ None
none_if None h = refl
none_if (Some fault) h = absurd (true≢false h)

-- a lexer that goes on had no fault before
pub no_fault : (was is next : Option LexFault) → IfSome was (λ fault. is ≡ Some fault) → is_some is ≡ false → IfSome was (λ fault. next ≡ Some fault)
no_fault None is next h live = tt
no_fault (Some fault) is next h live = absurd (both_ways (is_some is) live (ap is_some h))

pub run_more : (s t u : State) (piece : List ℕ) (i : ℕ) → i < length piece
    → IsRun (run s (take i piece)) t → is_some t.fault ≡ false → IsRun (step t (get_or piece i 0)) u → IsRun (run s (take (i + 1) piece)) u
run_more s t u piece i below (inr out) live after = absurd (both_ways (is_some t.fault) live (out_is_some t out))
run_more s t u piece i below (inl is) live (inr out) = inr out
run_more s t u piece i below (inl is) live (inl after) =
    inl (after ∙ ap (λ (v : State). step v (get_or piece i 0)) is ∙ sym (fold_more step s piece i 0 below))

pub run_all : (s t : State) (piece : List ℕ) (i : ℕ) → length piece ≤ i → IsRun (run s (take i piece)) t → IsRun (run s piece) t
run_all s t piece i past = subst (λ (bytes : List ℕ). IsRun (run s bytes) t) (take_all i piece past)
