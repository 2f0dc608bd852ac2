-- A set that begins with the list of a role and takes the list of each of its roles in turn has in the end what the lists lead to.
use Rattle.std.proofs.Common.{◌≡◌, ℕ, ◌+◌, ◌<◌, ◌≤◌, ◌↔◌, Bool, true, nat_eq, Some, List, [], ◌∷◌, ◌++◌, length, take, get_or, refl, sym, ap, subst, ◌∙◌, inl, inr, arith, cond}
use Rattle.std.specs.List.{list_any, slice_get, All, Contains, IsDistinct}
use Rattle.std.proofs.lemmas.Bool.{cases_Bool}
use Rattle.std.proofs.lemmas.Bool.Decides.{Decides-eqb}
use Rattle.std.proofs.lemmas.List.{append-nil, append_assoc, length-append, take_all, take-append-le}
use Rattle.std.proofs.lemmas.List.Elements.{All-nil, All-cons, All-contains, All-weaker, All-append, All-more, All-same, All-get_or, Contains-get_or, Contains-append_left, Contains-append_right}
use Rattle.std.proofs.lemmas.Option.{get_or_from_slice_get, slice_get_within}
use Rattle.std.proofs.lemmas.Map.Steps.{length-le_from_distinct_below}
use Rattle.std.proofs.lemmas.Map.Views.{Contains-from_any}
use Rattle.indexmap.specs.IndexSet.{insert_key, insert_all}
use Rattle.indexmap.proofs.CallerLemmas.{Contains-insert_key}
use Rattle.cd_index.specs.Walk.{AreWithin, Leads}
use Rattle.cd_index.specs.Walk.Leads.{once, on}

pub same_number : (a b : ℕ) → nat_eq a b ≡ true → a ≡ b
same_number a b h = (Decides-eqb a b).0 h

-- ---- inserting

-- those that were there stay in their places, and only such as were inserted are new
added : (ks xs : List ℕ) → (more : List ℕ) × (insert_all nat_eq ks xs ≡ ks ++ more) × All (Contains xs) more
added ks [] = ([], sym (append-nil ks), All-nil (Contains {X = ℕ} []))
added ks (x ∷ xs) =
    let rest = added (insert_key nat_eq ks x) xs in
    let weaker = All-weaker (Contains xs) (Contains (x ∷ xs)) (Contains-append_right (x ∷ []) xs) rest.0 rest.2 in
    elim (cases_Bool (list_any (nat_eq x) ks)) [
      | inl old ↦ (rest.0, rest.1 ∙ ap (λ (t : Bool). cond t ks (ks ++ x ∷ []) ++ rest.0) old, weaker)
      | inr new ↦ (
        x ∷ rest.0,
        rest.1 ∙ ap (λ (t : Bool). cond t ks (ks ++ x ∷ []) ++ rest.0) new ∙ append_assoc ks (x ∷ []) rest.0,
        All-cons (Contains (x ∷ xs)) x rest.0 (0, omega arith, refl) weaker,
      )
    ]

-- each that was inserted is there
has_each : (ks xs : List ℕ) → All (Contains (insert_all nat_eq ks xs)) xs
has_each ks [] = All-nil (Contains ks)
has_each ks (x ∷ xs) =
    let rest = added (insert_key nat_eq ks x) xs in
    All-cons (Contains (insert_all nat_eq ks (x ∷ xs))) x xs
    (subst (λ (l : List ℕ). Contains l x) (sym rest.1)
    (Contains-append_left (insert_key nat_eq ks x) rest.0 x (Contains-insert_key nat_eq same_number ks x)))
    (has_each (insert_key nat_eq ks x) xs)

-- ---- the walk

module _ (told : List (List ℕ)) (start : ℕ) where
  -- the walk from start has taken the lists of the first roles of ks, so many as next
  pub record IsUnderWay (next : ℕ) (ks : List ℕ) : Type 0 where
    pub inside : All (λ k. k < length told) ks
    pub reached : All (Leads told start) ks
    pub begun : All (Contains ks) (get_or told start [])
    pub taken : All (λ k. All (Contains ks) (get_or told k [])) (take next ks)
    pub far : next ≤ length ks

module _ (told : List (List ℕ)) (start : ℕ) (within : AreWithin told) where
  list_within : (r : ℕ) → r < length told → All (λ s. s < length told) (get_or told r [])
  list_within r lt = All-get_or (λ l. All (λ s. s < length told) l) told r [] lt within

  pub at_start : start < length told → IsUnderWay told start 0 (insert_all nat_eq [] (get_or told start []))
  at_start lt =
      let ks = insert_all nat_eq [] (get_or told start []) in
      let new = added [] (get_or told start []) in
      record {
        inside = All-same (λ k. k < length told) ks new.0 new.1
            (All-weaker (Contains (get_or told start [])) (λ k. k < length told)
            (λ k h. All-contains (λ s. s < length told) (get_or told start []) k (list_within start lt) h) new.0 new.2);
        reached = All-same (Leads told start) ks new.0 new.1 (All-weaker (Contains (get_or told start [])) (Leads told start) (λ k h. once h) new.0 new.2);
        begun = has_each [] (get_or told start []);
        taken = All-nil (λ k. All (Contains ks) (get_or told k []));
        far = omega arith;
      }

  module _ (next at : ℕ) (ks : List ℕ) (way : IsUnderWay told start next ks) (read : slice_get ks next ≡ Some at) where
    lt : next < length ks
    lt = slice_get_within ks next at read

    is : at ≡ get_or ks next at
    is = sym (get_or_from_slice_get ks next at at read)

    at_there : Contains ks at
    at_there = subst (Contains ks) (sym is) (Contains-get_or ks next at lt)

    pub here_within : at < length told
    here_within = All-contains (λ k. k < length told) ks at way.inside at_there

    abbrev after : List ℕ
    after = insert_all nat_eq ks (get_or told at [])

    new : (more : List ℕ) × (after ≡ ks ++ more) × All (Contains (get_or told at [])) more
    new = added ks (get_or told at [])

    keeps : (x : ℕ) → Contains ks x → Contains after x
    keeps x h = subst (λ (l : List ℕ). Contains l x) (sym new.1) (Contains-append_left ks new.0 x h)

    each : (P : ℕ → Type 0) → All P ks → ((s : ℕ) → Contains (get_or told at []) s → P s) → All P after
    each P old fresh = All-same P after (ks ++ new.0) new.1 (All-append P ks new.0 old (All-weaker (Contains (get_or told at [])) P fresh new.0 new.2))

    all_keep : (xs : List ℕ) → All (Contains ks) xs → All (Contains after) xs
    all_keep xs h = All-weaker (Contains ks) (Contains after) keeps xs h

    abbrev Taken : List ℕ → ℕ → Type 0
    Taken l k = All (Contains l) (get_or told k [])

    pub one_more : IsUnderWay told start (next + 1) after
    one_more = record {
      inside = each (λ k. k < length told) way.inside (λ s h. All-contains (λ k. k < length told) (get_or told at []) s (list_within at here_within) h);
      reached = each (Leads told start) way.reached (λ s h. on at (All-contains (Leads told start) ks at way.reached at_there) h);
      begun = all_keep (get_or told start []) way.begun;
      taken = All-same (Taken after) (take (next + 1) after) (take (next + 1) ks) (ap (take (next + 1)) new.1 ∙ take-append-le (next + 1) ks new.0 (omega (arith, lt)))
          (All-more (Taken after) ks next at lt
          (All-weaker (Taken ks) (Taken after) (λ k h. all_keep (get_or told k []) h) (take next ks) way.taken)
          (subst (Taken after) is (has_each ks (get_or told at []))));
      far = omega (arith, way.far, lt, ap length new.1, length-append ks new.0);
    }

  module _ (next : ℕ) (ks : List ℕ) (way : IsUnderWay told start next ks) where
    pub few : IsDistinct nat_eq ks → length ks ≤ length told
    few distinct =
        length-le_from_distinct_below ks (length told) distinct (λ q h. All-contains (λ k. k < length told) ks q way.inside (Contains-from_any same_number q ks h))

    pub at_end : length ks ≤ next → (s : ℕ) → Contains ks s ↔ Leads told start s
    at_end all_taken s = (λ h. All-contains (Leads told start) ks s way.reached h, λ leads. stays s leads)
      where
        closed : All (λ k. All (Contains ks) (get_or told k [])) ks
        closed = All-same (λ k. All (Contains ks) (get_or told k [])) ks (take next ks) (sym (take_all next ks all_taken)) way.taken

        stays : (s : ℕ) → Leads told start s → Contains ks s
        stays s (once h) = All-contains (Contains ks) (get_or told start []) s way.begun h
        stays s (on t leads h) = All-contains (Contains ks) (get_or told t []) s (All-contains (λ k. All (Contains ks) (get_or told k [])) ks t closed (stays t leads)) h

-- a role with an empty list leads to none
pub leads_nowhere : (told : List (List ℕ)) (r : ℕ) → get_or told r [] ≡ [] → (s : ℕ) → Leads told r s → ⊥
leads_nowhere told r none s (once h) = let empty : Contains {X = ℕ} [] s = subst (λ (l : List ℕ). Contains l s) none h in omega (arith, empty.1)
leads_nowhere told r none s (on t leads h) = leads_nowhere told r none t leads
