-- The contexts of all cells, and how many they are.
use Rattle.std.proofs.Common.{◌≡◌, ℕ, suc, ◌+◌, ◌≤◌, inl, inr, List, [], ◌∷◌, ◌++◌, length, map, refl, sym, ap, subst, ◌∙◌, arith}
use Rattle.std.specs.List.{sum_by}
use Rattle.std.proofs.lemmas.List.{length-append, length-map, map-append}
use Rattle.std.proofs.lemmas.List.Sums.{sum_by-append, sum_by-cons}
use Rattle.cd_base.specs.Lists.{OneOf, HasNoRepeats, collect}
use Rattle.cd_base.specs.declared.normal.Normal.{Normal}
use Rattle.cd_base.proofs.Members.{member_cases, map_member, collect_member}
use Rattle.cd_actor.specs.Cells.{At}
use Rattle.cd_context.specs.Facts.{count}
use Rattle.cd_context.specs.Justified.{IsContext}
use Rattle.cd_context.specs.State.{State}
use Rattle.cd_cell.specs.Cells.{CellState, IsCell, place_of, contexts_of, facts_of}
use Rattle.cd_cell.specs.Counts.{AreContexts, CellCounts}

abbrev states_in : CellState → List State
states_in c = map (λ (e : List ℕ × State). e.1) c.contexts

abbrev key_of : State → List ℕ
key_of s = s.key

apart_both : {X : Type 0} (xs ys : List X) → HasNoRepeats xs → HasNoRepeats ys → ((x : X) → OneOf x xs → OneOf x ys → ⊥) → HasNoRepeats (xs ++ ys)
apart_both [] ys a b never = b
apart_both (x ∷ xs) ys a b never = (
  λ m. elim (member_cases x xs ys m) [ inl h ↦ a.0 h | inr h ↦ never x (inl refl) h ],
  apart_both xs ys a.1 b (λ z h k. never z (inr h) k),
)

-- a cell's states have its keys
keys_are : (contexts : List (List ℕ × State)) → ((h : List ℕ) (s : State) → OneOf (h, s) contexts → s.key ≡ h)
    → map key_of (map (λ (e : List ℕ × State). e.1) contexts) ≡ map (λ (e : List ℕ × State). e.0) contexts
keys_are [] own = refl
keys_are (e ∷ es) own = let k = own e.0 e.1 (inl refl) in let r = keys_are es (λ h s m. own h s (inr m)) in λ i. k i ∷ r i

module _ (places : ℕ) where
  -- each cell keeps its contexts, and stands at its place, counted on from k
  abbrev AreFrom : ℕ → List CellState → Type 0
  AreFrom k cells = (i : ℕ) (c : CellState) → At cells i c → IsCell c.normal c.number c.cells c.contexts × (c.number ≡ k + i) × (c.cells ≡ places)

  placed : (k : ℕ) (cells : List CellState) → AreFrom k cells → (key : List ℕ) → OneOf key (map key_of (collect states_in cells)) → (i : ℕ) × (place_of places key ≡ k + i)
  placed k cells are key m =
      let s = map_member key_of key (collect states_in cells) m in
      let c = collect_member states_in s.0 cells s.1 in
      let e = map_member (λ (e : List ℕ × State). e.1) s.0 c.0.contexts c.2 in
      let p = at_of cells c.0 c.1 in
      let a = are p.0 c.0 p.1 in
      let h : OneOf (e.0.0, e.0.1) c.0.contexts = e.1 in
      let o : e.0.1.key ≡ e.0.0 = a.0.own e.0.0 e.0.1 h in
      let q : key ≡ e.0.0 = s.2 ∙ (ap key_of e.2 ∙ o) in
      let r : place_of c.0.cells e.0.0 ≡ c.0.number = a.0.placed e.0.0 e.0.1 h in
      (p.0, ap (λ z. place_of places z) q ∙ (ap (λ z. place_of z e.0.0) (sym a.2) ∙ (r ∙ a.1)))
    where
      at_of : (cs : List CellState) (c : CellState) → OneOf c cs → (i : ℕ) × At cs i c
      at_of [] c h = absurd h
      at_of (d ∷ cs) c (inl h) = (0, h)
      at_of (d ∷ cs) c (inr h) = let r = at_of cs c h in (suc r.0, r.1)

  apart : (k : ℕ) (cells : List CellState) → AreFrom k cells → HasNoRepeats (map key_of (collect states_in cells))
  apart k [] are = tt
  apart k (c ∷ cs) are =
      let a = are 0 c refl in
      let rest : AreFrom (suc k) cs = λ i d at. let r = are (suc i) d at in (r.0, (let e : d.number ≡ k + suc i = r.1 in omega arith), r.2) in
      let keys = keys_are c.contexts a.0.own in
      subst HasNoRepeats (sym (map-append key_of (states_in c) (collect states_in cs)))
      (apart_both (map key_of (states_in c)) (map key_of (collect states_in cs)) (subst HasNoRepeats (sym keys) a.0.apart) (apart (suc k) cs rest)
      (λ key m later.
      let here = map_member (λ (e : List ℕ × State). e.0) key c.contexts (subst (λ z. OneOf key z) keys m) in
      let h : OneOf (here.0.0, here.0.1) c.contexts = here.1 in
      let r : place_of c.cells here.0.0 ≡ c.number = a.0.placed here.0.0 here.0.1 h in
      let p : place_of places key ≡ c.number = ap (λ z. place_of places z) here.2 ∙ (ap (λ z. place_of z here.0.0) (sym a.2) ∙ r) in
      let q = placed (suc k) cs rest key later in
      let e : place_of places key ≡ suc k + q.0 = q.1 in
      let f : c.number ≡ k + 0 = a.1 in
      omega arith))

  each : (n : Normal) (cells : List CellState) → ((i : ℕ) (c : CellState) → At cells i c → IsCell c.normal c.number c.cells c.contexts × (c.normal ≡ n)) → (s : State) → OneOf s (collect states_in cells) → IsContext n s
  each n [] are s m = absurd m
  each n (c ∷ cs) are s m = elim (member_cases s (states_in c) (collect states_in cs) m) [
    | inl h ↦
        let a = are 0 c refl in
        let e = map_member (λ (e : List ℕ × State). e.1) s c.contexts h in
        let j : IsContext c.normal e.0.1 = a.0.context e.0.0 e.0.1 e.1 in
        subst (λ z. IsContext n z) (sym e.2) (subst (λ z. IsContext z e.0.1) a.1 j)
    | inr h ↦ each n cs (λ i d at. are (suc i) d at) s h
  ]

-- no more contexts are counted than there are
counted_contexts : (cells : List CellState) → sum_by (λ c. contexts_of c.contexts) cells ≤ length (collect states_in cells)
counted_contexts [] = omega arith
counted_contexts (c ∷ cs) =
    let r = counted_contexts cs in
    let l : length (states_in c ++ collect states_in cs) ≡ length (states_in c) + length (collect states_in cs) = length-append (states_in c) (collect states_in cs) in
    let m : length (states_in c) ≡ length c.contexts = length-map c.contexts (λ (e : List ℕ × State). e.1) in
    omega (arith, sum_by-cons (λ (c : CellState). contexts_of c.contexts) c cs)

sum_of_states : (contexts : List (List ℕ × State)) → sum_by count (map (λ (e : List ℕ × State). e.1) contexts) ≡ sum_by (λ (e : List ℕ × State). count e.1) contexts
sum_of_states [] = refl
sum_of_states (e ∷ es) =
    let states = map (λ (e : List ℕ × State). e.1) es in
    let r : sum_by count states ≡ sum_by (λ (e : List ℕ × State). count e.1) es = sum_of_states es in
    let l : sum_by count (e.1 ∷ states) ≡ count e.1 + sum_by count states = sum_by-cons count e.1 states in
    let m : sum_by (λ (e : List ℕ × State). count e.1) (e ∷ es) ≡ count e.1 + sum_by (λ (e : List ℕ × State). count e.1) es = sum_by-cons (λ (e : List ℕ × State). count e.1) e es in
    l ∙ (ap (λ z. count e.1 + z) r ∙ sym m)

-- no more facts
counted_facts : (cells : List CellState) → sum_by (λ c. facts_of c.contexts) cells ≤ sum_by count (collect states_in cells)
counted_facts [] = omega arith
counted_facts (c ∷ cs) =
    let r = counted_facts cs in
    let l : sum_by count (states_in c ++ collect states_in cs) ≡ sum_by count (states_in c) + sum_by count (collect states_in cs) = sum_by-append count (states_in c) (collect states_in cs) in
    let m : sum_by count (states_in c) ≡ sum_by (λ (e : List ℕ × State). count e.1) c.contexts = sum_of_states c.contexts in
    omega (arith, sum_by-cons (λ (c : CellState). facts_of c.contexts) c cs)

pub cell_counts : CellCounts
cell_counts n cells k normal = ((states, are, omega (arith, counted_contexts cells)), (states, are, omega (arith, counted_facts cells)))
  where
    states : List State
    states = collect states_in cells

    are : AreContexts n states
    are = record {
      apart = apart (length cells) 0 cells (λ i c at. ((k.whole i c at).cell, (let e : c.number ≡ i = k.place i c at in omega arith), k.places i c at));
      each = each (length cells) n cells (λ i c at. ((k.whole i c at).cell, normal i c at));
    }
