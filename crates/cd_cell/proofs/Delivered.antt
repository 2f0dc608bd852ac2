-- A cell after the delivery of a note.
use Rattle.std.proofs.Common.{◌≡◌, ◌⊎◌, ◌<◌, ◌≤◌, ◌+◌, ℕ, Bool, true, false, min, List, length, Option, Some, None, refl, sym, ap, subst, ◌∙◌, inl, inr, arith}
use Rattle.std.specs.List.{sum_by}
use Rattle.std.specs.Option.{option_map_or}
use Rattle.std.proofs.lemmas.Bool.{false≢true, cases_lt}
use Rattle.cd_actor.specs.Meaning.{Keeps, Delivers, HasRisen}
use Rattle.cd_actor.specs.Sends.{sent, Sends}
use Rattle.cd_base.specs.Lists.{OneOf, HasNoRepeats}
use Rattle.cd_base.specs.declared.normal.Normal.{Normal}
use Rattle.cd_base.specs.Counts.{last}
use Rattle.cd_context.specs.Facts.{has_fact, same_key, count}
use Rattle.cd_context.specs.Justified.{IsContext, ClosedLocally}
use Rattle.cd_context.specs.Owes.{Owes}
use Rattle.cd_context.specs.State.{State}
use Rattle.cd_context.specs.declared.facts.Fact.{Fact}
use Rattle.cd_context.specs.declared.facts.Note.{Note}
use Rattle.cd_cell.specs.Cells.{CellState, IsCell, IsSound, IsWhole, IsLawfulNote, OwesFrom, state_at, has_note, place_of, contexts_of, facts_of, meaning}
use Rattle.cd_cell.specs.Sending.{SendsNotes}
use Rattle.cd_cell.specs.Telling.{put, AreClosedContexts, Puts, Tells}
use Rattle.cd_cell.proofs.Puts.{keys_of, same_key-true, put_member, put_state, put_other, put_apart, put_length, new_length, put_sum, new_sum, put_least, state_member}

-- what a whole cell gives to the telling
pub are_closed : (u : CellState) → IsWhole u → AreClosedContexts u.normal u.contexts
are_closed u w = record { own = w.cell.own; context = w.cell.context; closed = w.closed }

-- ---- the contexts

module _ (n : Normal) (old : List (List ℕ × State)) (key : List ℕ) (new : List (List ℕ × State)) (p : Puts n old key new) where
  -- what holds of each context that was there, and of the one of the key, holds of each
  each : (P : List ℕ → State → Type 0) → ((h : List ℕ) (s : State) → OneOf (h, s) old → P h s) → P key p.state → (h : List ℕ) (s : State) → OneOf (h, s) new → P h s
  each P f e h s m = elim (put_member old key p.state (h, s) (subst (λ (l : List (List ℕ × State)). OneOf (h, s) l) p.is m)) [
    | inl q ↦ f h s q
    | inr q ↦ subst (λ (x : List ℕ × State). P x.0 x.1) (sym q) e
  ]

  pub cell_kept : (number cells : ℕ) → number ≡ place_of cells key → IsCell n number cells old → IsCell n number cells new
  cell_kept number cells goes i = record {
    below = i.below;
    apart = subst (λ (l : List (List ℕ × State)). HasNoRepeats (keys_of l)) (sym p.is) (put_apart old key p.state i.apart);
    own = each (λ h s. s.key ≡ h) i.own p.next.own;
    placed = each (λ h s. place_of cells h ≡ number) i.placed (sym goes);
    context = each (λ h s. IsContext n s) i.context p.next.context;
  }

  pub closed_kept : ((h : List ℕ) (s : State) → OneOf (h, s) old → ClosedLocally n s) → ClosedLocally n p.state → (h : List ℕ) (s : State) → OneOf (h, s) new → ClosedLocally n s
  closed_kept f e = each (λ h s. ClosedLocally n s) f e

  -- the context of the key has what the state has
  pub has_now : (fact : Fact) → has_fact p.state fact ≡ true → has_note new (record { key = key; fact = fact }) ≡ true
  has_now fact e =
      ap (λ (o : Option State). option_map_or (λ (s : State). has_fact s fact) o false) (ap (λ (l : List (List ℕ × State)). state_at l key) p.is ∙ put_state old key p.state) ∙ e

  -- what was had is had
  pub has_kept : (note : Note) → has_note old note ≡ true → has_note new note ≡ true
  has_kept note h = by (same_key note.key key) refl
    where
      found : (o : Option State) → state_at old key ≡ o → option_map_or (λ (s : State). has_fact s note.fact) o false ≡ true → has_fact p.state note.fact ≡ true
      found None e g = absurd (false≢true g)
      found (Some b) e g = (p.next.grows b e).facts note.fact g

      by : (t : Bool) → same_key note.key key ≡ t → has_note new note ≡ true
      by true q =
          let k : note.key ≡ key = same_key-true note.key key q in
          ap (λ (o : Option State). option_map_or (λ (s : State). has_fact s note.fact) o false)
          (ap (λ (l : List (List ℕ × State)). state_at l note.key) p.is ∙ ap (λ (l : List ℕ). state_at (put old key p.state) l) k ∙ put_state old key p.state)
          ∙ found (state_at old key) refl (ap (λ (l : List ℕ). option_map_or (λ (s : State). has_fact s note.fact) (state_at old l) false) (sym k) ∙ h)
      by false q =
          ap (λ (o : Option State). option_map_or (λ (s : State). has_fact s note.fact) o false)
          (ap (λ (l : List (List ℕ × State)). state_at l note.key) p.is ∙ put_other old key note.key p.state q) ∙ h

  -- no count falls
  pub contexts_kept : contexts_of old ≤ contexts_of new
  contexts_kept = by (state_at old key) refl
    where
      by : (o : Option State) → state_at old key ≡ o → contexts_of old ≤ contexts_of new
      by None e = omega (arith, ap length p.is ∙ new_length old key p.state e)
      by (Some b) e = omega (arith, ap length p.is ∙ put_length old key p.state b e)

  pub facts_kept : facts_of old ≤ facts_of new
  facts_kept = by (state_at old key) refl
    where
      grow : (m k a b : ℕ) → m + b ≡ k + a → (b < a) ⊎ (a ≡ b) → min k last ≤ min m last
      grow m k a b e (inl h) = omega arith
      grow m k a b e (inr h) = omega arith

      new_one : (m k a : ℕ) → m ≡ k + a → min k last ≤ min m last
      new_one m k a e = omega arith

      by : (o : Option State) → state_at old key ≡ o → facts_of old ≤ facts_of new
      by None e = new_one (sum_by (λ e. count e.1) new) (sum_by (λ e. count e.1) old) (count p.state) (ap (sum_by (λ e. count e.1)) p.is ∙ new_sum old key p.state e)
      by (Some b) e =
          grow (sum_by (λ e. count e.1) new) (sum_by (λ e. count e.1) old) (count p.state) (count b)
          (ap (λ (l : List (List ℕ × State)). sum_by (λ e. count e.1) l + count b) p.is ∙ put_sum old key p.state b e) (p.next.grows b e).count

  -- a fact that was not had makes a count rise
  pub risen : (fact : Fact) → ((b : State) → state_at old key ≡ Some b → has_fact b fact ≡ false → (count b < count p.state) ⊎ (count p.state ≡ last))
      → has_note old (record { key = key; fact = fact }) ≡ false → HasRisen (contexts_of old) (facts_of old) (contexts_of new) (facts_of new)
  risen fact more none = by (state_at old key) refl none
    where
      begun : (k m f g : ℕ) → m ≡ k + 1 → f ≤ g → HasRisen (min k last) f (min m last) g
      begun k m f g e le = elim (cases_lt k last) [ inl h ↦ inl (omega (arith, h)) | inr h ↦ inr (inl (omega (arith, h))) ]

      gained : (c d m k a b : ℕ) → d ≡ c → m + b ≡ k + a → a ≤ m → (b < a) ⊎ (a ≡ last) → HasRisen c (min k last) d (min m last)
      gained c d m k a b z e le (inl h) = elim (cases_lt m last) [ inl l ↦ inl (omega (arith, l, h)) | inr l ↦ inr (inr (omega (arith, l))) ]
      gained c d m k a b z e le (inr h) = inr (inr (omega (arith, h)))

      by : (o : Option State) → state_at old key ≡ o → option_map_or (λ (s : State). has_fact s fact) o false ≡ false → HasRisen (contexts_of old) (facts_of old) (contexts_of new) (facts_of new)
      by None e g = begun (length old) (length new) (facts_of old) (facts_of new) (ap length p.is ∙ new_length old key p.state e) facts_kept
      by (Some b) e g =
          gained (contexts_of old) (contexts_of new) (sum_by (λ e. count e.1) new) (sum_by (λ e. count e.1) old) (count p.state) (count b)
          (ap contexts_of p.is ∙ ap (λ m. min m last) (put_length old key p.state b e))
          (ap (λ (l : List (List ℕ × State)). sum_by (λ e. count e.1) l + count b) p.is ∙ put_sum old key p.state b e)
          (subst (λ (l : List (List ℕ × State)). count p.state ≤ sum_by (λ e. count e.1) l) (sym p.is) (put_least old key p.state b e)) (more b e g)

-- ---- the cell

-- the cell with other contexts
abbrev pub with_contexts : CellState → List (List ℕ × State) → Bool → CellState
with_contexts u contexts failed = record { number = u.number; cells = u.cells; normal = u.normal; contexts = contexts; failed = failed }

-- nothing that it had is lost
pub keeps_same : (u : CellState) (new : List (List ℕ × State)) (failed : Bool) → new ≡ u.contexts → Keeps meaning u (with_contexts u new failed)
keeps_same u new failed e = record {
  place = refl;
  family = refl;
  has = λ m h. ap (λ (l : List (List ℕ × State)). has_note l m) e ∙ h;
  contexts = omega (arith, ap contexts_of e);
  facts = omega (arith, ap facts_of e);
}

pub keeps_put : (u : CellState) (key : List ℕ) (new : List (List ℕ × State)) (failed : Bool) → Puts u.normal u.contexts key new → Keeps meaning u (with_contexts u new failed)
keeps_put u key new failed p = record {
  place = refl;
  family = refl;
  has = has_kept u.normal u.contexts key new p;
  contexts = contexts_kept u.normal u.contexts key new p;
  facts = facts_kept u.normal u.contexts key new p;
}

-- after want of memory
pub keeps_either : (u : CellState) (key : List ℕ) (new : List (List ℕ × State)) → (new ≡ u.contexts) ⊎ Puts u.normal u.contexts key new → Keeps meaning u (with_contexts u new true)
keeps_either u key new (inl e) = keeps_same u new true e
keeps_either u key new (inr p) = keeps_put u key new true p

pub sound_either : (u : CellState) (key : List ℕ) (new : List (List ℕ × State)) → IsWhole u → u.number ≡ place_of u.cells key → (new ≡ u.contexts) ⊎ Puts u.normal u.contexts key new
    → IsSound (with_contexts u new true)
sound_either u key new w goes (inl e) = record { cell = subst (λ (l : List (List ℕ × State)). IsCell u.normal u.number u.cells l) (sym e) w.cell; closed = λ f. absurd (false≢true (sym f)) }
sound_either u key new w goes (inr p) = record { cell = cell_kept u.normal u.contexts key new p u.number u.cells goes w.cell; closed = λ f. absurd (false≢true (sym f)) }

module _ (u : CellState) (note : Note) (new : List (List ℕ × State)) (notes : List Note) (w : IsWhole u) (goes : u.number ≡ place_of u.cells note.key)
    (t : Tells u.normal u.contexts note.key note.fact new notes) where
  cell_now : IsCell u.normal u.number u.cells new
  cell_now = cell_kept u.normal u.contexts note.key new t.puts u.number u.cells goes w.cell

  closed_now : (h : List ℕ) (s : State) → OneOf (h, s) new → ClosedLocally u.normal s
  closed_now = closed_kept u.normal u.contexts note.key new t.puts w.closed t.takes.closed

  pub sound_now : (failed : Bool) → IsSound (with_contexts u new failed)
  sound_now failed = record { cell = cell_now; closed = λ f. closed_now }

  pub keeps_now : (failed : Bool) → Keeps meaning u (with_contexts u new failed)
  keeps_now failed = keeps_put u note.key new failed t.puts

  module _ (Done : Type 0) (out new_out : List (ℕ × Note)) (a : SendsNotes u.cells Done notes out new_out) where
    -- each note is lawful for its cell
    pub sends_now : Sends (λ p m. IsLawfulNote u.normal u.cells p m) out new_out
    sends_now = record {
      follows = a.follows;
      each = λ x m.
          let r = a.only x.0 x.1 m in
          let l = t.takes.lawful x.1 r.0 in
          let b : u.number < u.cells = w.cell.below in
          let e : x.0 ≡ place_of u.cells x.1.key = r.1 in
          record { below = omega arith; goes = e; reachable = l.0; justified = l.1 };
    }

    owed_now : Done → (p : ℕ) (m : Note) → OwesFrom u.normal u.cells new p m → OwesFrom u.normal u.cells u.contexts p m ⊎ OneOf (p, m) (sent out new_out)
    owed_now done p m o = elim (put_member u.contexts note.key t.puts.state (o.key, o.state) (subst (λ (l : List (List ℕ × State)). OneOf (o.key, o.state) l) t.puts.is o.here)) [
      | inl q ↦ inl (record { key = o.key; state = o.state; here = q; owes = o.owes; goes = o.goes })
      | inr q ↦ elim (t.takes.every m (subst (λ (s : State). Owes u.normal s m) (ap (λ (x : List ℕ × State). x.1) q) o.owes)) [
        | inl b ↦ inl (record { key = note.key; state = b.0; here = state_member u.contexts note.key b.0 b.1; owes = b.2; goes = o.goes })
        | inr k ↦ inr (subst (λ (r : ℕ). OneOf (r, m) (sent out new_out)) (sym o.goes) (a.every done m k))
      ]
    ]

    pub delivers_now : Done → Delivers meaning u note (with_contexts u new false) (sent out new_out)
    delivers_now done = record {
      whole = record { stands = refl; cell = cell_now; closed = closed_now };
      had = has_now u.normal u.contexts note.key new t.puts note.fact t.takes.had;
      owed = owed_now done;
      risen = risen u.normal u.contexts note.key new t.puts note.fact t.takes.risen;
    }
