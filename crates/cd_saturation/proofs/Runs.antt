-- What a run comes to, over new cells and over closed ones.
use Rattle.std.proofs.Common.{◌≡◌, ℕ, zero, suc, ◌+◌, ◌<◌, ◌⊎◌, inl, inr, List, [], ◌∷◌, ◌++◌, length, refl, sym, ap, subst, ◌∙◌, arith, true}
use Rattle.cd_base.specs.Keys.{plain, is_named}
use Rattle.cd_base.specs.Lists.{OneOf}
use Rattle.cd_base.specs.declared.normal.Normal.{Normal}
use Rattle.cd_actor.specs.Cells.{At, AreCells, AreOf, IsLawful, AreAllLawful, Had, HadOrPends, total}
use Rattle.cd_actor.specs.Settled.{IsSettled, KeepsFamily}
use Rattle.cd_base.proofs.Members.{member_left, member_right, member_cases, member_map, map_member}
use Rattle.std.proofs.lemmas.Bool.{cases_lt}
use Rattle.cd_actor.proofs.At.{at_below}
use Rattle.cd_context.specs.declared.facts.Fact.TheVariants.{Start}
use Rattle.cd_clause.specs.Derivations.{IsStart, MayBeAsked, from_start}
use Rattle.cd_context.specs.declared.facts.Note.{Note}
use Rattle.cd_cell.specs.Cells.{CellState, IsWhole, IsCell, IsLawfulNote, meaning, place_of}
use Rattle.cd_cell.specs.Counts.{HasContexts, HasFacts}
use Rattle.cd_cell.proofs.CountedCells.{cell_counts}
use Rattle.cd_core.specs.State.{CoreState}
use Rattle.cd_core.specs.Begin.{IsBegun as IsResumed}
use Rattle.cd_core.specs.Ends.{IsStop}
use Rattle.cd_core.specs.declared.stops.Stop.{Stop}
use Rattle.cd_core.specs.declared.stops.Stop.TheVariants.{Limit, Memory}
use Rattle.cd_base.specs.declared.limit_kind.LimitKind.TheVariants.{Contexts, Facts}
use Rattle.cd_base.specs.declared.answer.Answer.{Answer}
use Rattle.cd_saturation.specs.Decided.{IsDecided}
use Rattle.cd_saturation.specs.Groups.{key_of, starts_of}
use Rattle.cd_saturation.specs.Limit.{HasHalted, halt_of}
use Rattle.cd_saturation.specs.Saturation.{AreNew, AreRun, AreStarts, HasBegun, new_cell, start_at, start_of}
use Rattle.cd_saturation.specs.declared.group.Group.{Group}
use Rattle.cd_saturation.proofs.GroupKeys.{class_start, group_start}

-- an element of a list with one more
pub at_push : {X : Type 0} (xs : List X) (y x : X) (i : ℕ) → At (xs ++ y ∷ []) i x → At xs i x ⊎ ((i ≡ length xs) × (x ≡ y))
at_push [] y x zero h = inr (refl, h)
at_push [] y x (suc i) h = absurd h
at_push (z ∷ xs) y x zero h = inl h
at_push (z ∷ xs) y x (suc i) h = elim (at_push xs y x i h) [ inl k ↦ inl k | inr k ↦ inr (ap suc k.0, k.1) ]

module _ (n : Normal) (count : ℕ) (cells : List CellState) (are : AreNew n count cells) where
  is_new : (i : ℕ) → i < count → IsCell n i count []
  is_new i lt = record {
    below = lt;
    apart = tt;
    own = λ h s m. absurd m;
    placed = λ h s m. absurd m;
    context = λ h s m. absurd m;
  }

  is_whole : (i : ℕ) → i < count → IsWhole (new_cell n count i)
  is_whole i lt = record { stands = refl; cell = is_new i lt; closed = λ h s m. absurd m }

  below : (i : ℕ) (c : CellState) → At cells i c → i < count
  below i c at = let l = at_below cells i c at in let e : length cells ≡ count = are.each in omega arith

  pub new_cells : AreCells meaning cells
  new_cells = record {
    place = λ i c at. ap (λ (c : CellState). c.number) (are.are i c at);
    places = λ i c at. ap (λ (c : CellState). c.cells) (are.are i c at) ∙ sym are.each;
    family = λ i j c d ic jd. ap (λ (c : CellState). (c.cells, c.normal)) (are.are i c ic) ∙ sym (ap (λ (c : CellState). (c.cells, c.normal)) (are.are j d jd));
    whole = λ i c at. subst IsWhole (sym (are.are i c at)) (is_whole i (below i c at));
  }

  pub of_family : AreOf meaning (count, n) cells
  of_family i c at = ap (λ (c : CellState). (c.cells, c.normal)) (are.are i c at)

-- ---- start messages

module _ (n : Normal) (count : ℕ) (cells : List CellState) (of : AreOf meaning (count, n) cells) (each : length cells ≡ count) (some : 0 < count) where
  -- the message that begins the context of a key which may be started is lawful
  pub start_lawful : (key : List ℕ) → IsStart n key → IsLawful meaning cells (start_at count key)
  start_lawful key is = (
    omega arith,
    λ c at. subst (λ (f : ℕ × Normal). IsLawfulNote f.1 f.0 (place_of count key) (record { key = key; fact = Start })) (sym (of (place_of count key) c at)) record {
      below = omega arith;
      goes = refl;
      reachable = from_start is;
      justified = is;
    },
  )

  pub classes_lawful : (classes : ℕ) (start : List (ℕ × Note)) → AreStarts count classes start → ((a : ℕ) → a < classes → is_named n a ≡ true) → AreAllLawful meaning cells start
  classes_lawful classes start starts named x m =
      let s = starts.only x m in
      subst (λ x. IsLawful meaning cells x) (sym s.2) (start_lawful (plain s.0 ∷ []) (class_start n s.0 (named s.0 s.1)))

  pub groups_lawful : (groups : List Group) → ((g : Group) → OneOf g groups → is_named n g.class ≡ true) → ((g : Group) → OneOf g groups → (b : ℕ) → OneOf b g.names → MayBeAsked n g.class b)
      → AreAllLawful meaning cells (starts_of count groups)
  groups_lawful groups class names x m =
      let r = map_member (λ (g : Group). start_at count (key_of g.class g.names)) x groups m in
      subst (λ x. IsLawful meaning cells x) (sym r.2) (start_lawful (key_of r.0.class r.0.names) (group_start n r.0.class r.0.names (class r.0 r.1) (names r.0 r.1)))

-- ---- what a run comes to

-- what a core that has been given cells and messages has come to, they have
pub resumed : (cells : List CellState) (start : List (ℕ × Note)) (core : CoreState CellState Note) → IsResumed meaning cells start core
    → (after : List CellState) → IsSettled meaning core.cells core.pending after → IsSettled meaning cells start after
resumed cells start core b after e = record {
  are_cells = e.are_cells;
  family = λ f of. e.family f (subst (λ cs. AreOf meaning f cs) (sym b.cells_are) of);
  had = λ x h. e.had x (elim h [
    | inl k ↦ inl (subst (λ cs. Had meaning cs x) (sym b.cells_are) k)
    | inr m ↦ inr (subst (λ q. OneOf x q) (sym b.pending) (member_left x start b.more m))
  ]);
  owed = e.owed;
}

module _ (n : Normal) (count : ℕ) (cells : List CellState) (of : AreOf meaning (count, n) cells) where
  normal_after : (after : List CellState) → KeepsFamily meaning cells after → (i : ℕ) (c : CellState) → At after i c → c.normal ≡ n
  normal_after after keeps i c at = ap (λ (f : ℕ × Normal). f.1) (keeps (count, n) of i c at)

  -- where nothing is owed that is not had, the cells are closed, and have the contexts of the classes that they had, or whose messages pended
  pub run_after : (classes : ℕ) (pending : List (ℕ × Note)) (after : List CellState) → IsSettled meaning cells pending after
      → ((a : ℕ) → a < classes → HadOrPends meaning cells pending (start_of count a)) → AreRun n count classes after
  run_after classes pending after e begun = record {
    settled = record { are_cells = e.are_cells; normal = normal_after after e.family; had = e.owed };
    family = e.family (count, n) of;
    begun = λ a lt. e.had (start_of count a) (begun a lt);
  }

  -- as many contexts as were counted, and as many facts
  contexts_after : (after : List CellState) (number : ℕ) → AreCells meaning after → KeepsFamily meaning cells after → number ≡ total meaning.contexts after → HasContexts n number
  contexts_after after number k keeps e = subst (λ z. HasContexts n z) (sym e) (cell_counts n after k (normal_after after keeps)).0

  facts_after : (after : List CellState) (number : ℕ) → AreCells meaning after → KeepsFamily meaning cells after → number ≡ total meaning.facts after → HasFacts n number
  facts_after after number k keeps e = subst (λ z. HasFacts n z) (sym e) (cell_counts n after k (normal_after after keeps)).1

  -- what a run that has stopped tells is so
  pub stopped : (mc mf : ℕ) (stop : Stop CellState) → IsStop meaning cells mc mf stop → HasHalted n mc mf (halt_of stop)
  stopped mc mf (Limit Contexts number after) h = (contexts_after after.items number h.0 h.2 h.3.0, h.3.1)
  stopped mc mf (Limit Facts number after) h = (facts_after after.items number h.0 h.2 h.3.0, h.3.1)
  stopped mc mf Memory h = tt

pub halted : (cells : List CellState) (start : List (ℕ × Note)) (core : CoreState CellState Note) → IsResumed meaning cells start core
    → (mc mf : ℕ) (stop : Stop CellState) → IsStop meaning core.cells mc mf stop → (count : ℕ) (n : Normal) → AreOf meaning (count, n) cells → HasHalted n mc mf (halt_of stop)
halted cells start core b mc mf stop s count n of = stopped n count core.cells (subst (λ cs. AreOf meaning (count, n) cs) (sym b.cells_are) of) mc mf stop s

module _ (n : Normal) (count classes : ℕ) (cells : List CellState) (run : AreRun n count classes cells) where
  -- there are so many cells, if there is a class
  pub run_long : (a : ℕ) → a < classes → length cells ≡ count
  run_long a lt =
      let h = run.begun a lt in
      sym (run.settled.are_cells.places (place_of count (plain a ∷ [])) h.0 h.1) ∙ ap (λ (f : ℕ × Normal). f.0) (run.family (place_of count (plain a ∷ [])) h.0 h.1)

  -- cells that are run on have the contexts that they had
  pub run_on : (pending : List (ℕ × Note)) (after : List CellState) → IsSettled meaning cells pending after → AreRun n count classes after
  run_on pending after e = run_after n count cells run.family classes pending after e (λ a lt. inl (run.begun a lt))

  -- the messages that begin the contexts of open groups are lawful
  pub open_lawful : 0 < count → ((a : ℕ) → a < classes → is_named n a ≡ true) → (above : List Answer) (groups : List Group) → IsDecided n classes above groups → AreAllLawful meaning cells (starts_of count groups)
  open_lawful some named above groups d x m =
      let r = map_member (λ (g : Group). start_at count (key_of g.class g.names)) x groups m in
      groups_lawful n count cells run.family (run_long r.0.class (d.classes_below r.0 r.1)) some groups (λ g k. named g.class (d.classes_below g k)) d.asked x m

-- cells that are run on with the messages of groups have the contexts of these
pub groups_begun : (count : ℕ) (cells : List CellState) (groups : List Group) (after : List CellState) → IsSettled meaning cells (starts_of count groups) after
    → (g : Group) → OneOf g groups → HasBegun count after (key_of g.class g.names)
groups_begun count cells groups after e g m =
    e.had (start_at count (key_of g.class g.names)) (inr (member_map (λ (g : Group). start_at count (key_of g.class g.names)) g groups m))

-- one more start message
pub starts_more : (count k : ℕ) (start new : List (ℕ × Note)) → AreStarts count k start → new ≡ start ++ start_of count k ∷ [] → AreStarts count (k + 1) new
starts_more count k start new are e = record { only = λ x m. only x (subst (λ q. OneOf x q) e m); every = λ a lt. subst (λ q. OneOf (start_of count a) q) (sym e) (every a lt) }
  where
    only : (x : ℕ × Note) → OneOf x (start ++ start_of count k ∷ []) → (a : ℕ) × (a < k + 1) × (x ≡ start_of count a)
    only x m = elim (member_cases x start (start_of count k ∷ []) m) [
      | inl h ↦ let r = are.only x h in (r.0, omega (arith, r.1), r.2)
      | inr h ↦ elim h [ inl q ↦ (k, omega arith, q) | inr z ↦ absurd z ]
    ]

    every : (a : ℕ) → a < k + 1 → OneOf (start_of count a) (start ++ start_of count k ∷ [])
    every a lt = elim (cases_lt a k) [
      | inl l ↦ member_left (start_of count a) start (start_of count k ∷ []) (are.every a l)
      | inr l ↦ (let q : k ≡ a = omega arith in subst (λ z. OneOf (start_of count z) (start ++ start_of count k ∷ [])) q (member_right (start_of count k) start (start_of count k ∷ []) (inl refl)))
    ]

-- one more cell
pub cells_more : (n : Normal) (count k : ℕ) (cells new : List CellState) (c : CellState) → length cells ≡ k → ((i : ℕ) (d : CellState) → At cells i d → d ≡ new_cell n count i) → c ≡ new_cell n count k → new ≡ cells ++ c ∷ []
    → (i : ℕ) (d : CellState) → At new i d → d ≡ new_cell n count i
cells_more n count k cells new c long are is e i d at = elim (at_push cells c d i (subst (λ q. At q i d) e at)) [
  | inl h ↦ are i d h
  | inr h ↦ h.1 ∙ (is ∙ ap (λ z. new_cell n count z) (sym (h.0 ∙ long)))
]
