-- Closed cells are closed contexts, each found by its key.
use Rattle.std.proofs.Common.{◌≡◌, ℕ, suc, inl, inr, Bool, true, List, [], ◌∷◌, length, map, get_or, Option, Some, None, refl, sym, ap, subst, ◌∙◌}
use Rattle.cd_base.specs.Keys.{plain}
use Rattle.cd_base.specs.Lists.{OneOf, collect}
use Rattle.cd_base.specs.declared.normal.Normal.{Normal}
use Rattle.cd_base.proofs.Members.{member_map, map_member, member_collect, collect_member}
use Rattle.cd_clause.specs.declared.elem.Elem.{Elem}
use Rattle.cd_clause.specs.Derivations.{Derived, start_key}
use Rattle.cd_model.specs.Canonical.{IsClosure, RolesInRange}
use Rattle.cd_model.specs.Exactness.{Exact, IsTest, AreExact}
use Rattle.cd_model.proofs.Exact.{exact}
use Rattle.cd_context.specs.Facts.{has_fact}
use Rattle.cd_context.specs.Justified.{ClosedLocally, IsContext}
use Rattle.cd_context.specs.Owes.{Owes}
use Rattle.cd_context.specs.State.{State, live_of}
use Rattle.cd_context.specs.declared.facts.Note.{Note}
use Rattle.cd_context.proofs.Justify.{live_derived}
use Rattle.cd_actor.specs.Cells.{At, Had}
use Rattle.cd_actor.proofs.At.{at_get, at_member}
use Rattle.cd_cell.specs.Cells.{CellState, IsWhole, place_of, state_at, meaning}
use Rattle.cd_cell.specs.Closed.{Closed}
use Rattle.cd_cell.specs.ClosedCells.{AreSettled, IsExactCell, CellExactness}
use Rattle.cd_cell.proofs.Lookups.{state_of_member, member_of_state, has_from}
use Rattle.cd_cell.proofs.Saturating.{saturation}

-- a value that no look-up gives
abbrev nothing : List ℕ → State
nothing key = record { key = key; clauses = []; live = []; links = []; backs = []; sures = []; deads = [] }

abbrev found : Option State → List ℕ → State
found (Some s) key = s
found None key = nothing key

module _ (n : Normal) (cells : List CellState) (closed : AreSettled n cells) where
  abbrev no_cell : CellState
  no_cell = record { number = 0; cells = 0; normal = n; contexts = []; failed = true }

  -- the cell of the key's place
  abbrev cell_of : List ℕ → CellState
  cell_of key = get_or cells (place_of (length cells) key) no_cell

  abbrev state : List ℕ → State
  state key = found (state_at (cell_of key).contexts key) key

  abbrev keys_in : CellState → List (List ℕ)
  keys_in c = map (λ e. e.0) c.contexts

  abbrev keys : List (List ℕ)
  keys = collect keys_in cells

  -- the context of a key, and where it is
  record Here (key : List ℕ) : Type 0 where
    i : ℕ
    c : CellState
    at : At cells i c
    s : State
    isin : OneOf (key, s) c.contexts

  is_whole : (i : ℕ) (c : CellState) → At cells i c → IsWhole c
  is_whole i c at = closed.are_cells.whole i c at

  -- a key's context is that of its cell
  state_is : (i : ℕ) (c : CellState) → At cells i c → (key : List ℕ) (s : State) → OneOf (key, s) c.contexts → state key ≡ s
  state_is i c at key s m =
      let w = is_whole i c at in
      let p : place_of c.cells key ≡ c.number = w.cell.placed key s m in
      let l : c.cells ≡ length cells = closed.are_cells.places i c at in
      let k : c.number ≡ i = closed.are_cells.place i c at in
      let q : place_of (length cells) key ≡ i = ap (λ z. place_of z key) (sym l) ∙ (p ∙ k) in
      let e : cell_of key ≡ c = ap (λ z. get_or cells z no_cell) q ∙ at_get cells i c no_cell at in
      ap (λ (d : CellState). found (state_at d.contexts key) key) e ∙ ap (λ o. found o key) (state_of_member c.contexts key s w.cell.apart m)

  known : (key : List ℕ) → OneOf key keys → Here key
  known key m =
      let r = collect_member keys_in key cells m in
      let p = place_in cells r.0 r.1 in
      let e = map_member (λ (e : List ℕ × State). e.0) key r.0.contexts r.2 in
      record { i = p.0; c = r.0; at = p.1; s = e.0.1; isin = subst (λ k. OneOf (k, e.0.1) r.0.contexts) (sym e.2) e.1 }
    where
      place_in : (cs : List CellState) (c : CellState) → OneOf c cs → (i : ℕ) × At cs i c
      place_in [] c h = absurd h
      place_in (d ∷ cs) c (inl h) = (0, h)
      place_in (d ∷ cs) c (inr h) = let r = place_in cs c h in (suc r.0, r.1)

  is_known : (i : ℕ) (c : CellState) → At cells i c → (key : List ℕ) (s : State) → OneOf (key, s) c.contexts → OneOf key keys
  is_known i c at key s m = member_collect keys_in c key cells (at_member cells i c at) (member_map (λ (e : List ℕ × State). e.0) (key, s) c.contexts m)

  context : (key : List ℕ) (h : Here key) → IsContext n (state key)
  context key h =
      subst (λ z. IsContext z (state key)) (closed.normal h.i h.c h.at)
      (subst (λ z. IsContext h.c.normal z) (sym (state_is h.i h.c h.at key h.s h.isin)) ((is_whole h.i h.c h.at).cell.context key h.s h.isin))

  own : (key : List ℕ) (h : Here key) → (state key).key ≡ key
  own key h = ap (λ (z : State). z.key) (state_is h.i h.c h.at key h.s h.isin) ∙ (is_whole h.i h.c h.at).cell.own key h.s h.isin

  locally : (key : List ℕ) (h : Here key) → ClosedLocally n (state key)
  locally key h =
      subst (λ z. ClosedLocally z (state key)) (closed.normal h.i h.c h.at)
      (subst (λ z. ClosedLocally h.c.normal z) (sym (state_is h.i h.c h.at key h.s h.isin)) ((is_whole h.i h.c h.at).closed key h.s h.isin))

  -- what a context owes is had
  had : (key : List ℕ) (h : Here key) (note : Note) → Owes n (state key) note → OneOf note.key keys × (has_fact (state note.key) note.fact ≡ true)
  had key h note o =
      let o1 : Owes n h.s note = subst (λ z. Owes n z note) (state_is h.i h.c h.at key h.s h.isin) o in
      let o2 : Owes h.c.normal h.s note = subst (λ z. Owes z h.s note) (sym (closed.normal h.i h.c h.at)) o1 in
      let w : Had meaning cells (place_of h.c.cells note.key, note) = closed.had h.i h.c h.at (place_of h.c.cells note.key) note record { key = key; state = h.s; here = h.isin; owes = o2; goes = refl } in
      let f = has_from w.0.contexts note w.2 in
      let m = member_of_state w.0.contexts note.key f.0 f.1 in (
        is_known (place_of h.c.cells note.key) w.0 w.1 note.key f.0 m,
        ap (λ z. has_fact z note.fact) (state_is (place_of h.c.cells note.key) w.0 w.1 note.key f.0 m) ∙ f.2,
      )

  is_closed : Closed n keys state
  is_closed = record {
    own = λ key m. own key (known key m);
    locally = λ key m. locally key (known key m);
    had = λ key m. had key (known key m);
  }

  derived : (key : List ℕ) → OneOf key keys → (c : List Elem) → OneOf c (live_of (state key)) → Derived n key c
  derived key m c i = subst (λ k. Derived n k c) (own key (known key m)) (live_derived n (state key) (context key (known key m)) c i)

  -- a live clause of a context of one of the cells is derived
  pub derived_at : (i : ℕ) (c : CellState) → At cells i c → (key : List ℕ) (s : State) → OneOf (key, s) c.contexts → (d : List Elem) → OneOf d (live_of s) → Derived n key d
  derived_at i c at key s m d k =
      let w = is_whole i c at in
      subst (λ z. Derived z key d) (closed.normal i c at)
      (subst (λ (h : List ℕ). Derived c.normal h d) (w.cell.own key s m) (live_derived c.normal s (w.cell.context key s m) d k))

  module _ (below : ℕ → ℕ → Bool) (closure : IsClosure n below) (roles : RolesInRange n) where
    exactly : AreExact n keys (λ k. live_of (state k))
    exactly = exact n below closure roles keys (λ k. live_of (state k)) (saturation n keys state is_closed) derived

    pub exact_at : (i : ℕ) (c : CellState) → At cells i c → IsExactCell n c
    exact_at i c at = record {
      exact = λ a s m. subst (λ z. Exact n a (live_of z)) (state_is i c at (plain a ∷ []) s m) (exactly.exact a (is_known i c at (plain a ∷ []) s m));
      test = λ a others s m. subst (λ z. IsTest n a others (live_of z)) (state_is i c at (start_key a others) s m) (exactly.test a others (is_known i c at (start_key a others) s m));
    }

pub cell_exactness : CellExactness
cell_exactness n below closure roles cells closed = exact_at n cells closed below closure roles
