-- What is owed and not had, gone through message by message and cell by cell.
use Rattle.std.proofs.Common.{◌≡◌, ℕ, zero, suc, ◌+◌, ◌<◌, ◌⊎◌, inl, inr, true, false, List, [], ◌∷◌, ◌++◌, length, take, refl, ap, sym, ◌∙◌, subst, arith, add-one, append_assoc}
use Rattle.std.proofs.lemmas.Bool.{cases_Bool}
use Rattle.std.proofs.lemmas.List.{append-nil}
use Rattle.cd_base.specs.Lists.{OneOf, HasNoRepeats}
use Rattle.cd_actor.specs.Sends.{sent}
use Rattle.cd_actor.specs.Laws.{OwedInFamily}
use Rattle.cd_actor.specs.Meaning.{Meaning}
use Rattle.cd_actor.specs.Cells.{At, IsLawful, AreAllLawful, Had, HadOrPends, IsOwedCovered, AreCells}
use Rattle.cd_actor.specs.Owed.{IsNotHadOf, IsOwedOf, IsOwedInTurn}
use Rattle.cd_base.proofs.Members.{member_left, member_right, member_cases}
use Rattle.cd_actor.proofs.Members.{apart_more}
use Rattle.cd_actor.proofs.At.{at_one, at_some, take_at}
use Rattle.cd_actor.proofs.Sent.{sent_more, follows_more}

-- what is true of messages that are gone through: `left` is left of `all`, and those that are not had were appended to `old`
pub record IsJoining {A M : Type 0} (g : Meaning A M) (cells : List A) (all old left new : List (ℕ × M)) : Type 0 where
  pub follows : new ≡ old ++ sent old new
  pub lawful : AreAllLawful g cells left
  pub left_apart : HasNoRepeats left
  pub apart : HasNoRepeats (sent old new)
  pub only : (x : ℕ × M) → OneOf x (sent old new) → OneOf x all × (Had g cells x → ⊥)
  -- what is left was not gone through
  pub fresh : (x : ℕ × M) → OneOf x (sent old new) → OneOf x left → ⊥
  pub rest : (x : ℕ × M) → OneOf x left → OneOf x all
  pub every : (x : ℕ × M) → OneOf x all → OneOf x left ⊎ HadOrPends g cells (sent old new) x

module _ {A M : Type 0} (g : Meaning A M) (cells : List A) (all old left new : List (ℕ × M)) (p : ℕ) (m : M) (less : List (ℕ × M)) (a : A) (j : IsJoining g cells all old left new) (e : left ≡ (p, m) ∷ less) (at : At cells p a) where
  now : IsJoining g cells all old ((p, m) ∷ less) new
  now = subst (λ q. IsJoining g cells all old q new) e j

  -- a message that is had is left out
  pub join_drop : g.has a m ≡ true → IsJoining g cells all old less new
  join_drop h = record {
    follows = now.follows;
    lawful = λ x i. now.lawful x (inr i);
    left_apart = now.left_apart.1;
    apart = now.apart;
    only = now.only;
    fresh = λ x i k. now.fresh x i (inr k);
    rest = λ x i. now.rest x (inr i);
    every = λ x i. elim (now.every x i) [
      | inl k ↦ elim k [ inl q ↦ inr (inl (subst (λ y. Had g cells y) (sym q) (a, at, h))) | inr n ↦ inl n ]
      | inr k ↦ inr k
    ];
  }

  not_had : g.has a m ≡ false → Had g cells (p, m) → ⊥
  not_had h k = let z : k.0 ≡ a = at_one cells p k.0 a k.1 at in let w : g.has a m ≡ true = subst (λ c. g.has c m ≡ true) z k.2 in cc

  -- a message that is not had is appended
  pub join_keep : g.has a m ≡ false → (after : List (ℕ × M)) → after ≡ new ++ (p, m) ∷ [] → IsJoining g cells all old less after
  join_keep h after f =
      let s : sent old after ≡ sent old new ++ (p, m) ∷ [] = sent_more old new after ((p, m) ∷ []) now.follows f in
      let parts = λ (x : ℕ × M) (i : OneOf x (sent old after)). member_cases x (sent old new) ((p, m) ∷ []) (subst (λ q. OneOf x q) s i) in record {
        follows = follows_more old new after ((p, m) ∷ []) now.follows f;
        lawful = λ x i. now.lawful x (inr i);
        left_apart = now.left_apart.1;
        apart = subst HasNoRepeats (sym s) (apart_more (sent old new) (p, m) now.apart (λ i. now.fresh (p, m) i (inl refl)));
        only = λ x i. elim (parts x i) [
          | inl k ↦ now.only x k
          | inr k ↦ elim k [ inl q ↦ (subst (λ y. OneOf y all) (sym q) (now.rest (p, m) (inl refl)), λ w. not_had h (subst (λ y. Had g cells y) q w)) | inr z ↦ absurd z ]
        ];
        fresh = λ x i k. elim (parts x i) [
          | inl w ↦ now.fresh x w (inr k)
          | inr w ↦ elim w [ inl q ↦ now.left_apart.0 (subst (λ y. OneOf y less) q k) | inr z ↦ absurd z ]
        ];
        rest = λ x i. now.rest x (inr i);
        every = λ x i. elim (now.every x i) [
          | inl k ↦ elim k [ inl q ↦ inr (inr (subst (λ l. OneOf x l) (sym s) (member_right x (sent old new) ((p, m) ∷ []) (inl q)))) | inr n ↦ inl n ]
          | inr k ↦ elim k [ inl d ↦ inr (inl d) | inr d ↦ inr (inr (subst (λ l. OneOf x l) (sym s) (member_left x (sent old new) ((p, m) ∷ []) d))) ]
        ];
      }

-- where nothing is left, all that is not had was appended
pub join_end : {A M : Type 0} (g : Meaning A M) (cells : List A) (all old left new : List (ℕ × M)) → IsJoining g cells all old left new → left ≡ [] → IsNotHadOf g cells all (sent old new)
join_end {M = M} g cells all old left new j e = record { apart = j.apart; are = λ x. (j.only x, every x) }
  where
    every : (x : ℕ × M) → OneOf x all × (Had g cells x → ⊥) → OneOf x (sent old new)
    every x k = elim (j.every x k.0) [
      | inl i ↦ absurd (subst (λ l. OneOf x l) e i)
      | inr i ↦ elim i [ inl h ↦ absurd (k.1 h) | inr h ↦ h ]
    ]

-- what a cell owes is lawful
pub owed_lawful : {A M : Type 0} (g : Meaning A M) (cells : List A) (i : ℕ) (a : A) (x : ℕ × M) → AreCells g cells → OwedInFamily g → At cells i a → g.owes a x.0 x.1 → IsLawful g cells x
owed_lawful g cells i a x k law at o =
    let w = k.whole i a at in
    let b : x.0 < g.places a = (law a a refl w x.0 x.1 o).0 in let f : g.places a ≡ length cells = k.places i a at in
    (omega arith, λ c j. (law a c (k.family i x.0 a c at j) w x.0 x.1 o).1)

-- what one cell lists, without what is had
pub owed_of : {A M : Type 0} (g : Meaning A M) (cells : List A) (a : A) (owed part : List (ℕ × M)) → ((p : ℕ) (m : M) → OneOf (p, m) owed → g.owes a p m) → ((p : ℕ) (m : M) → g.owes a p m → OneOf (p, m) owed) → IsNotHadOf g cells owed part → IsOwedOf g cells a part
owed_of g cells a owed part only every n = record {
  apart = n.apart;
  are = λ x. (λ i. let k = (n.are x).0 i in (only x.0 x.1 k.0, k.1), λ k. (n.are x).1 (every x.0 x.1 k.0, k.1));
}

-- one more cell
in_turn_more : {A M : Type 0} (g : Meaning A M) (cells rest : List A) (a : A) (more part : List (ℕ × M)) → IsOwedInTurn g cells rest more → IsOwedOf g cells a part → IsOwedInTurn g cells (rest ++ a ∷ []) (more ++ part)
in_turn_more g cells [] a more part h o = (part, [], ap (λ q. q ++ part) h ∙ sym (append-nil part), o, refl)
in_turn_more g cells (b ∷ rest) a more part h o = (h.0, h.1 ++ part, ap (λ q. q ++ part) h.2 ∙ append_assoc h.0 h.1 part, h.3, in_turn_more g cells rest a h.1 part h.4 o)

-- the cells that were gone through, and the next one
pub in_turn_next : {A M : Type 0} (g : Meaning A M) (cells : List A) (i : ℕ) (a : A) (old now new : List (ℕ × M)) → At cells i a → now ≡ old ++ sent old now → new ≡ now ++ sent now new
    → IsOwedInTurn g cells (take i cells) (sent old now) → IsOwedOf g cells a (sent now new) → IsOwedInTurn g cells (take (i + 1) cells) (sent old new)
in_turn_next g cells i a old now new at f e h o =
    let t : take i cells ++ a ∷ [] ≡ take (i + 1) cells = sym (rw add-one (take_at cells i a at)) in
    let s : sent old now ++ sent now new ≡ sent old new = sym (sent_more old now new (sent now new) f e) in
    subst (λ r. IsOwedInTurn g cells r (sent old new)) t (subst (λ q. IsOwedInTurn g cells (take i cells ++ a ∷ []) q) s (in_turn_more g cells (take i cells) a (sent old now) (sent now new) h o))

-- each message is owed by one of the cells
in_turn_only : {A M : Type 0} (g : Meaning A M) (cells rest : List A) (more : List (ℕ × M)) → IsOwedInTurn g cells rest more → (x : ℕ × M) → OneOf x more → (i : ℕ) × (a : A) × At rest i a × g.owes a x.0 x.1
in_turn_only g cells [] more h x k = absurd (subst (λ q. OneOf x q) h k)
in_turn_only g cells (b ∷ rest) more h x k = elim (member_cases x h.0 h.1 (subst (λ q. OneOf x q) h.2 k)) [
  | inl w ↦ (zero, b, refl, ((h.3.are x).0 w).0)
  | inr w ↦ let r = in_turn_only g cells rest h.1 h.4 x w in (suc r.0, r.1, r.2, r.3)
]

-- each message that one of the cells owes is there, unless it is had
in_turn_every : {A M : Type 0} (g : Meaning A M) (cells rest : List A) (more : List (ℕ × M)) → IsOwedInTurn g cells rest more → (i : ℕ) (a : A) → At rest i a → (x : ℕ × M) → g.owes a x.0 x.1 → (Had g cells x → ⊥) → OneOf x more
in_turn_every g cells [] more h i a at x o n = elim at [ ]
in_turn_every g cells (b ∷ rest) more h zero a at x o n =
    subst (λ q. OneOf x q) (sym h.2) (member_left x h.0 h.1 ((h.3.are x).1 (subst (λ c. g.owes c x.0 x.1) at o, n)))
in_turn_every g cells (b ∷ rest) more h (suc i) a at x o n = subst (λ q. OneOf x q) (sym h.2) (member_right x h.0 h.1 (in_turn_every g cells rest h.1 h.4 i a at x o n))

-- what is owed in turn is lawful
pub in_turn_lawful : {A M : Type 0} (g : Meaning A M) (cells : List A) (more : List (ℕ × M)) → AreCells g cells → OwedInFamily g → IsOwedInTurn g cells cells more → AreAllLawful g cells more
in_turn_lawful g cells more k law o x i = let w = in_turn_only g cells cells more o x i in owed_lawful g cells w.0 w.1 x k law w.2 w.3

-- each message that one of the cells owes is had or there
pub in_turn_covered : {A M : Type 0} (g : Meaning A M) (cells : List A) (more : List (ℕ × M)) → AreCells g cells → OwedInFamily g → IsOwedInTurn g cells cells more → IsOwedCovered g cells more
in_turn_covered g cells more k law o i a at p m w =
    let l = owed_lawful g cells i a (p, m) k law at w in let c = at_some cells p l.0 in
    elim (cases_Bool (g.has c.0 m)) [
      | inl h ↦ inl (c.0, c.1, h)
      | inr h ↦ inr (in_turn_every g cells cells more o i a at (p, m) w (λ d.
          let z : d.0 ≡ c.0 = at_one cells p d.0 c.0 d.1 c.1 in let v : g.has c.0 m ≡ true = subst (λ b. g.has b m ≡ true) z d.2 in cc))
    ]
