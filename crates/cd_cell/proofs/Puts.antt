-- Contexts after that of one key has come to a state.
use Rattle.std.proofs.Common.{◌≡◌, ◌⊎◌, ◌≤◌, ◌+◌, ◌-◌, ℕ, Bool, true, false, cond, min, List, [], ◌∷◌, ◌++◌, map, length, Option, Some, None, nat_eq, refl, sym, ap, subst, ◌∙◌, inl, inr, arith, length-append}
use Rattle.std.specs.Cmp.Lexicographic.{pointwise}
use Rattle.std.specs.List.{sum_by}
use Rattle.std.specs.Map.{lookup, set_value}
use Rattle.std.specs.Option.{option_map_or}
use Rattle.std.proofs.lemmas.Bool.{false≢true}
use Rattle.std.proofs.lemmas.Bool.Decides.{Decides-eqb}
use Rattle.std.proofs.lemmas.List.{map-append}
use Rattle.std.proofs.lemmas.List.Sums.{sum_by-append}
use Rattle.std.proofs.lemmas.Option.{none-some, same_Some}
use Rattle.std.proofs.lemmas.Slice.Eq.{slice_eq-Decides}
use Rattle.cd_actor.proofs.Members.{apart_more}
use Rattle.cd_base.proofs.Members.{member_map}
use Rattle.cd_base.specs.Lists.{OneOf, HasNoRepeats}
use Rattle.cd_base.specs.Counts.{last}
use Rattle.cd_context.specs.Facts.{has_fact, same_key, count}
use Rattle.cd_context.specs.State.{State}
use Rattle.cd_context.specs.declared.facts.Note.{Note}
use Rattle.cd_cell.specs.Cells.{state_at, has_note, facts_of}
use Rattle.cd_cell.specs.Telling.{put}

-- ---- keys

pub same_key-true : (k l : List ℕ) → same_key k l ≡ true → k ≡ l
same_key-true k l e = (slice_eq-Decides Decides-eqb k l (pointwise nat_eq k l) refl).0 e

pub same_key_refl : (k : List ℕ) → same_key k k ≡ true
same_key_refl k = (slice_eq-Decides Decides-eqb k k (pointwise nat_eq k k) refl).1 refl

-- ---- look-ups

abbrev pub keys_of : List (List ℕ × State) → List (List ℕ)
keys_of es = map (λ e. e.0) es

-- a look-up by the key gives its state
pub state_at_is : (es : List (List ℕ × State)) (k : List ℕ) → state_at es k ≡ lookup (same_key k) es
state_at_is [] k = refl
state_at_is (e ∷ es) k = ap (λ (o : Option State). cond (same_key k e.0) (Some e.1) o) (state_at_is es k)

module _ (es : List (List ℕ × State)) (note : Note) where
  -- whether a note is had, where the key's context is found or not
  pub has_found : (s : State) → Some s ≡ lookup (same_key note.key) es → has_fact s note.fact ≡ has_note es note
  has_found s e = ap (λ (o : Option State). option_map_or (λ (s : State). has_fact s note.fact) o false) (e ∙ sym (state_at_is es note.key))

  pub has_none : None ≡ lookup (same_key note.key) es → false ≡ has_note es note
  has_none e = ap (λ (o : Option State). option_map_or (λ (s : State). has_fact s note.fact) o false) (e ∙ sym (state_at_is es note.key))

-- the state that is found is that of a context
pub state_member : (es : List (List ℕ × State)) (k : List ℕ) (b : State) → state_at es k ≡ Some b → OneOf (k, b) es
state_member [] k b h = absurd (none-some b h)
state_member (e ∷ es) k b h = by (state_member es k b) (same_key k e.0) refl h
  where
    by : (state_at es k ≡ Some b → OneOf (k, b) es) → (t : Bool) → same_key k e.0 ≡ t → cond t (Some e.1) (state_at es k) ≡ Some b → OneOf (k, b) (e ∷ es)
    by rest true q r = inl (λ j. (same_key-true k e.0 q j, sym (same_Some e.1 b r) j))
    by rest false q r = inr (rest r)

-- where none is found, none has the key
pub none_has : (es : List (List ℕ × State)) (k : List ℕ) → state_at es k ≡ None → OneOf k (keys_of es) → ⊥
none_has [] k h m = absurd m
none_has (e ∷ es) k h m = by (none_has es k) (same_key k e.0) refl h m
  where
    by : (state_at es k ≡ None → OneOf k (keys_of es) → ⊥) → (t : Bool) → same_key k e.0 ≡ t → cond t (Some e.1) (state_at es k) ≡ None → OneOf k (keys_of (e ∷ es)) → ⊥
    by rest true q r m = none-some e.1 (sym r)
    by rest false q r (inl i) = false≢true (sym q ∙ ap (same_key k) (sym i) ∙ same_key_refl k)
    by rest false q r (inr i) = rest r i

-- of distinct keys each finds its own state
pub member_state : (es : List (List ℕ × State)) (k : List ℕ) (s : State) → HasNoRepeats (keys_of es) → OneOf (k, s) es → state_at es k ≡ Some s
member_state [] k s a m = absurd m
member_state (e ∷ es) k s a (inl i) =
    let q : same_key k e.0 ≡ true = ap (same_key k) (sym (ap (λ (p : List ℕ × State). p.0) i)) ∙ same_key_refl k in
    ap (λ (t : Bool). cond t (Some e.1) (state_at es k)) q ∙ ap Some (sym (ap (λ (p : List ℕ × State). p.1) i))
member_state (e ∷ es) k s a (inr m) = by (member_state es k s a.1 m) (same_key k e.0) refl
  where
    by : state_at es k ≡ Some s → (t : Bool) → same_key k e.0 ≡ t → cond t (Some e.1) (state_at es k) ≡ Some s
    by rest true q = absurd (a.0 (subst (λ (w : List ℕ). OneOf w (keys_of es)) (same_key-true k e.0 q) (member_map (λ (p : List ℕ × State). p.0) (k, s) es m)))
    by rest false q = rest

-- ---- the shape of the list

-- a key that is there keeps its place
pub record IsThere (es : List (List ℕ × State)) (k : List ℕ) (b : State) : Type 0 where
  pub front : List (List ℕ × State)
  pub back : List (List ℕ × State)
  pub is : es ≡ front ++ (k, b) ∷ back
  pub puts : (s : State) → put es k s ≡ front ++ (k, s) ∷ back
  pub sets : (s : State) → set_value (same_key k) es s ≡ front ++ (k, s) ∷ back

pub there : (es : List (List ℕ × State)) (k : List ℕ) (b : State) → state_at es k ≡ Some b → IsThere es k b
there [] k b h = absurd (none-some b h)
there (e ∷ es) k b h = by (there es k b) (same_key k e.0) refl h
  where
    by : (state_at es k ≡ Some b → IsThere es k b) → (t : Bool) → same_key k e.0 ≡ t → cond t (Some e.1) (state_at es k) ≡ Some b → IsThere (e ∷ es) k b
    by rest true q r =
        let i : e.0 ≡ k = sym (same_key-true k e.0 q) in record {
          front = [];
          back = es;
          is = λ j. (i j, same_Some e.1 b r j) ∷ es;
          puts = λ s. ap (λ (t : Bool). cond t ((e.0, s) ∷ es) (e ∷ put es k s)) q ∙ (λ j. (i j, s) ∷ es);
          sets = λ s. ap (λ (t : Bool). cond t ((e.0, s) ∷ es) (e ∷ set_value (same_key k) es s)) q ∙ (λ j. (i j, s) ∷ es);
        }
    by rest false q r =
        let w = rest r in record {
          front = e ∷ w.front;
          back = w.back;
          is = ap (λ (l : List (List ℕ × State)). e ∷ l) w.is;
          puts = λ s. ap (λ (t : Bool). cond t ((e.0, s) ∷ es) (e ∷ put es k s)) q ∙ ap (λ (l : List (List ℕ × State)). e ∷ l) (w.puts s);
          sets = λ s. ap (λ (t : Bool). cond t ((e.0, s) ∷ es) (e ∷ set_value (same_key k) es s)) q ∙ ap (λ (l : List (List ℕ × State)). e ∷ l) (w.sets s);
        }

-- a new key goes last
pub put_new : (es : List (List ℕ × State)) (k : List ℕ) (s : State) → state_at es k ≡ None → put es k s ≡ es ++ (k, s) ∷ []
put_new [] k s h = refl
put_new (e ∷ es) k s h = by (put_new es k s) (same_key k e.0) refl h
  where
    by : (state_at es k ≡ None → put es k s ≡ es ++ (k, s) ∷ []) → (t : Bool) → same_key k e.0 ≡ t → cond t (Some e.1) (state_at es k) ≡ None → put (e ∷ es) k s ≡ e ∷ (es ++ (k, s) ∷ [])
    by rest true q r = absurd (none-some e.1 (sym r))
    by rest false q r = ap (λ (t : Bool). cond t ((e.0, s) ∷ es) (e ∷ put es k s)) q ∙ ap (λ (l : List (List ℕ × State)). e ∷ l) (rest r)

-- ---- sums

split_sum : {X : Type 0} (f : X → ℕ) (xs : List X) (y : X) (zs : List X) → sum_by f (xs ++ y ∷ zs) ≡ sum_by f xs + (f y + sum_by f zs)
split_sum f xs y zs =
    let p : sum_by f (xs ++ y ∷ zs) ≡ sum_by f xs + sum_by f (y ∷ zs) = sum_by-append f xs (y ∷ zs) in
    let q : sum_by f (y ∷ zs) ≡ sum_by f (y ∷ []) + sum_by f zs = sum_by-append f (y ∷ []) zs in
    let r : sum_by f (y ∷ []) ≡ 0 + f y = refl in
    omega arith

-- ---- what a state that was put changes

-- each context was there, or is the one that was put
pub put_member : (es : List (List ℕ × State)) (k : List ℕ) (s : State) (x : List ℕ × State) → OneOf x (put es k s) → OneOf x es ⊎ (x ≡ (k, s))
put_member [] k s x (inl e) = inr e
put_member [] k s x (inr m) = absurd m
put_member (e ∷ es) k s x m = by (put_member es k s x) (same_key k e.0) refl m
  where
    by : (OneOf x (put es k s) → OneOf x es ⊎ (x ≡ (k, s))) → (t : Bool) → same_key k e.0 ≡ t → OneOf x (cond t ((e.0, s) ∷ es) (e ∷ put es k s)) → OneOf x (e ∷ es) ⊎ (x ≡ (k, s))
    by rest true q (inl i) = inr (i ∙ (λ j. (sym (same_key-true k e.0 q) j, s)))
    by rest true q (inr i) = inl (inr i)
    by rest false q (inl i) = inl (inl i)
    by rest false q (inr i) = elim (rest i) [ inl p ↦ inl (inr p) | inr p ↦ inr p ]

-- the key has the state
pub put_state : (es : List (List ℕ × State)) (k : List ℕ) (s : State) → state_at (put es k s) k ≡ Some s
put_state [] k s = ap (λ (t : Bool). cond t (Some s) None) (same_key_refl k)
put_state (e ∷ es) k s = by (put_state es k s) (same_key k e.0) refl
  where
    by : state_at (put es k s) k ≡ Some s → (t : Bool) → same_key k e.0 ≡ t → state_at (cond t ((e.0, s) ∷ es) (e ∷ put es k s)) k ≡ Some s
    by rest true q = ap (λ (t : Bool). cond t (Some s) (state_at es k)) q
    by rest false q = ap (λ (t : Bool). cond t (Some e.1) (state_at (put es k s) k)) q ∙ rest

-- each other key has what it had
pub put_other : (es : List (List ℕ × State)) (k l : List ℕ) (s : State) → same_key l k ≡ false → state_at (put es k s) l ≡ state_at es l
put_other [] k l s d = ap (λ (t : Bool). cond t (Some s) None) d
put_other (e ∷ es) k l s d = by (put_other es k l s d) (same_key k e.0) refl
  where
    by : state_at (put es k s) l ≡ state_at es l → (t : Bool) → same_key k e.0 ≡ t → state_at (cond t ((e.0, s) ∷ es) (e ∷ put es k s)) l ≡ state_at (e ∷ es) l
    by rest true q =
        let f : same_key l e.0 ≡ false = ap (same_key l) (sym (same_key-true k e.0 q)) ∙ d in
        ap (λ (t : Bool). cond t (Some s) (state_at es l)) f ∙ sym (ap (λ (t : Bool). cond t (Some e.1) (state_at es l)) f)
    by rest false q = ap (λ (o : Option State). cond (same_key l e.0) (Some e.1) o) rest

module _ (es : List (List ℕ × State)) (k : List ℕ) (s : State) where
  -- where the key has a context, the keys stay
  pub put_keys : (b : State) → state_at es k ≡ Some b → keys_of (put es k s) ≡ keys_of es
  put_keys b h =
      let w = there es k b h in
      let f : List ℕ × State → List ℕ = λ e. e.0 in
      ap keys_of (w.puts s) ∙ map-append f w.front ((k, s) ∷ w.back) ∙ sym (map-append f w.front ((k, b) ∷ w.back)) ∙ sym (ap keys_of w.is)

  -- the keys stay distinct
  pub put_apart : HasNoRepeats (keys_of es) → HasNoRepeats (keys_of (put es k s))
  put_apart a = by (state_at es k) refl
    where
      by : (o : Option State) → state_at es k ≡ o → HasNoRepeats (keys_of (put es k s))
      by (Some b) h = subst HasNoRepeats (sym (put_keys b h)) a
      by None h = subst HasNoRepeats (sym (ap keys_of (put_new es k s h) ∙ map-append (λ (e : List ℕ × State). e.0) es ((k, s) ∷ []))) (apart_more (keys_of es) k a (none_has es k h))

  -- how many contexts there are
  pub put_length : (b : State) → state_at es k ≡ Some b → length (put es k s) ≡ length es
  put_length b h =
      let w = there es k b h in
      ap length (w.puts s) ∙ length-append w.front ((k, s) ∷ w.back) ∙ sym (length-append w.front ((k, b) ∷ w.back)) ∙ sym (ap length w.is)

  pub new_length : state_at es k ≡ None → length (put es k s) ≡ length es + 1
  new_length h = ap length (put_new es k s h) ∙ length-append es ((k, s) ∷ [])

  -- how many facts they have
  pub put_sum : (b : State) → state_at es k ≡ Some b → sum_by (λ e. count e.1) (put es k s) + count b ≡ sum_by (λ e. count e.1) es + count s
  put_sum b h =
      let w = there es k b h in
      let f : List ℕ × State → ℕ = λ e. count e.1 in
      let p : sum_by f (put es k s) ≡ sum_by f w.front + (count s + sum_by f w.back) = ap (sum_by f) (w.puts s) ∙ split_sum f w.front (k, s) w.back in
      let q : sum_by f es ≡ sum_by f w.front + (count b + sum_by f w.back) = ap (sum_by f) w.is ∙ split_sum f w.front (k, b) w.back in
      add_up (sum_by f (put es k s)) (sum_by f es) (sum_by f w.front) (sum_by f w.back) (count s) (count b) p q
    where
      add_up : (m n x y a b : ℕ) → m ≡ x + (a + y) → n ≡ x + (b + y) → m + b ≡ n + a
      add_up m n x y a b p q = omega arith

  pub new_sum : state_at es k ≡ None → sum_by (λ e. count e.1) (put es k s) ≡ sum_by (λ e. count e.1) es + count s
  new_sum h =
      let f : List ℕ × State → ℕ = λ e. count e.1 in
      ap (sum_by f) (put_new es k s h) ∙ split_sum f es (k, s) [] ∙ ap (λ m. sum_by f es + m) (zero_last (count s))
    where
      zero_last : (m : ℕ) → m + 0 ≡ m
      zero_last m = omega arith

  pub put_least : (b : State) → state_at es k ≡ Some b → count s ≤ sum_by (λ e. count e.1) (put es k s)
  put_least b h =
      let w = there es k b h in
      let f : List ℕ × State → ℕ = λ e. count e.1 in
      part (sum_by f (put es k s)) (sum_by f w.front) (sum_by f w.back) (count s) (ap (sum_by f) (w.puts s) ∙ split_sum f w.front (k, s) w.back)
    where
      part : (m x y a : ℕ) → m ≡ x + (a + y) → a ≤ m
      part m x y a p = omega arith

  -- a sum that gains what the context gained is that of the facts
  pub put_facts : (b : State) → state_at es k ≡ Some b → count b ≤ count s → (sum gained : ℕ) → sum ≡ facts_of es → gained ≡ min (sum + (count s - count b)) last → gained ≡ facts_of (put es k s)
  put_facts b h le sum gained e g = gain (sum_by (λ e. count e.1) (put es k s)) (sum_by (λ e. count e.1) es) (count s) (count b) sum gained (put_sum b h) le e g
    where
      gain : (m n a b sum gained : ℕ) → m + b ≡ n + a → b ≤ a → sum ≡ min n last → gained ≡ min (sum + (a - b)) last → gained ≡ min m last
      gain m n a b sum gained p le e g = omega arith

  pub new_facts : state_at es k ≡ None → (sum gained : ℕ) → sum ≡ facts_of es → gained ≡ min (sum + count s) last → gained ≡ facts_of (put es k s)
  new_facts h sum gained e g = gain (sum_by (λ e. count e.1) (put es k s)) (sum_by (λ e. count e.1) es) (count s) sum gained (new_sum h) e g
    where
      gain : (m n a sum gained : ℕ) → m ≡ n + a → sum ≡ min n last → gained ≡ min (sum + a) last → gained ≡ min m last
      gain m n a sum gained p e g = omega arith
