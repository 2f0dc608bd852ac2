-- Contexts that were told a fact.
use Rattle.std.proofs.Common.{◌≡◌, ◌≤◌, ◌+◌, ◌-◌, ℕ, min, List, Option, Some, None, Result, Ok, Err, OnErr, refl, sym, subst, ◌∙◌, inl, inr, arith}
use Rattle.std.specs.Map.{lookup, set_value}
use Rattle.cd_base.specs.Lists.{HasNoRepeats}
use Rattle.cd_base.specs.declared.normal.Normal.{Normal}
use Rattle.cd_context.specs.Contract.{Grows}
use Rattle.cd_base.specs.Counts.{last}
use Rattle.cd_context.specs.Facts.{same_key, count}
use Rattle.cd_context.specs.Justified.{Justified, IsContext, ClosedLocally}
use Rattle.cd_context.specs.State.{State}
use Rattle.cd_context.specs.declared.facts.Fact.{Fact}
use Rattle.cd_context.specs.declared.facts.Note.{Note}
use Rattle.cd_cell.specs.Cells.{state_at, facts_of}
use Rattle.cd_cell.specs.Telling.{put, AreClosedContexts, IsNext, Puts, Takes, Tells}
use Rattle.cd_cell.proofs.Puts.{keys_of, state_at_is, state_member, there, put_apart, put_facts, new_facts}

-- what holds whatever the answer
pub at_err : {T E : Type 0} (r : Result T E) (Q : Type 0) → Q → OnErr r Q
at_err (Ok x) Q q = tt
at_err (Err y) Q q = q

-- what the struct of the contexts keeps
abbrev pub IsKept : List (List ℕ × State) → ℕ → Type 0
IsKept es sum = (sum ≡ facts_of es) × HasNoRepeats (keys_of es)

module _ (n : Normal) (old : List (List ℕ × State)) (key : List ℕ) (new : List (List ℕ × State)) (s : State) where
  -- a context that begins
  module _ (absent : state_at old key ≡ None) (is : new ≡ put old key s) where
    pub kept_new : (sum gained : ℕ) → IsKept old sum → gained ≡ min (sum + count s) last → IsKept new gained
    kept_new sum gained k g = subst (λ (es : List (List ℕ × State)). IsKept es gained) (sym is) (new_facts old key s absent sum gained k.0 g, put_apart old key s k.1)

    pub tells_new : (fact : Fact) (notes : List Note) → IsNext n None key s → Takes n None fact s notes → Tells n old key fact new notes
    tells_new fact notes next takes = record {
      puts = record { state = s; is = is; next = subst (λ (o : Option State). IsNext n o key s) (sym absent) next };
      takes = subst (λ (o : Option State). Takes n o fact s notes) (sym absent) takes;
    }

  -- a context that was there
  module _ (b : State) (found : Some b ≡ lookup (same_key key) old) where
    here : state_at old key ≡ Some b
    here = state_at_is old key ∙ sym found

    -- it keeps what each context keeps
    module _ (closed : AreClosedContexts n old) where
      pub here_own : b.key ≡ key
      here_own = closed.own key b (state_member old key b here)

      pub here_context : IsContext n b
      here_context = closed.context key b (state_member old key b here)

      pub here_closed : ClosedLocally n b
      here_closed = closed.closed key b (state_member old key b here)

      pub here_justified : (fact : Fact) → Justified n key fact → Justified n b.key fact
      here_justified fact j = subst (λ (k : List ℕ). Justified n k fact) (sym here_own) j

    -- it comes to the state s
    module _ (is : new ≡ set_value (same_key key) old s) (next : IsNext n (Some b) b.key s) where
      is_put : new ≡ put old key s
      is_put = let w = there old key b here in is ∙ w.sets s ∙ sym (w.puts s)

      more : count b ≤ count s
      more = elim (next.grows b refl).count [ inl l ↦ omega (arith, l) | inr e ↦ omega (arith, e) ]

      pub kept : (sum gained : ℕ) → IsKept old sum → gained ≡ min (sum + (count s - count b)) last → IsKept new gained
      kept sum gained k g =
          subst (λ (es : List (List ℕ × State)). IsKept es gained) (sym is_put) (put_facts old key s b here more sum gained k.0 g, put_apart old key s k.1)

      module _ (closed : AreClosedContexts n old) where
        pub puts : Puts n old key new
        puts = record {
          state = s;
          is = is_put;
          next = record {
            own = next.own ∙ here_own closed;
            context = next.context;
            grows = subst (λ (o : Option State). (d : State) → o ≡ Some d → Grows d s) (sym here) next.grows;
          };
        }

        pub tells : (fact : Fact) (notes : List Note) → Takes n (Some b) fact s notes → Tells n old key fact new notes
        unfolding puts
        tells fact notes takes = record { puts = puts; takes = subst (λ (o : Option State). Takes n o fact s notes) (sym here) takes }
