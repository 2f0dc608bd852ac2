-- Cells of numbers, on which the core is tried: a cell's place, how many places there are, and its numbers.
use Rattle.std.proofs.Common.{◌≡◌, ℕ, zero, suc, ◌+◌, ◌-◌, ◌<◌, ◌≤◌, ◌%◌, ◌==◌, if◌then◌else◌, ◌⊎◌, inl, inr, true, false, List, [], ◌∷◌, ◌++◌, length, take, get_or, refl, sym, ap, ◌∙◌, subst, arith, eqb-true, eq-eqb, append_assoc, add-one}
use Rattle.std.specs.List.{list_any}
use Rattle.std.proofs.lemmas.Bool.{cases_Bool, or_left, or_right}
use Rattle.std.proofs.lemmas.List.{append-nil}
use Rattle.std.proofs.lemmas.Grind.{common_steps}
use Rattle.cd_base.specs.Lists.{OneOf, HasNoRepeats, collect}
use Rattle.cd_actor.specs.Sends.{sent, Sends}
use Rattle.cd_actor.specs.Meaning.{Meaning, Delivers}
use Rattle.cd_actor.specs.Cells.{At}
use Rattle.cd_base.proofs.Members.{member_left, member_right, member_cases}
use Rattle.cd_actor.proofs.Members.{apart_more}
use Rattle.cd_actor.proofs.At.{take_at}
use Rattle.cd_actor.proofs.Sent.{sent_all}

-- a number n above 0 owes n - 1 to the cell at place n - 1, counted round
abbrev pub owed : ℕ → ℕ → List (ℕ × ℕ)
owed places zero = []
owed places (suc n) = (n % places, n) ∷ []

-- what the numbers owe, in turn
abbrev pub all_owed : ℕ → List ℕ → List (ℕ × ℕ)
all_owed places ns = collect (owed places) ns

-- what is known of a cell of numbers
abbrev pub meaning : Meaning (ℕ × ℕ × List ℕ) ℕ
meaning = record {
  Family = ℕ;
  family = λ v. v.1;
  place = λ v. v.0;
  places = λ v. v.1;
  lawful = λ v p m. p < v.1;
  has = λ v m. list_any (λ n. n == m) v.2;
  owes = λ v p m. OneOf (m + 1) v.2 × (p ≡ m % v.1);
  whole = λ v. v.0 < v.1;
  contexts = λ v. 0;
  facts = λ v. length v.2;
}

not_zero : (n : ℕ) → (suc n == 0) ≡ false
not_zero n = elim (cases_Bool (suc n == 0)) [ inl e ↦ absurd (let k : suc n ≡ 0 = eqb-true (suc n) 0 e in omega arith) | inr e ↦ e ]

-- what a number owes, by a test
pub owed_is : (places n : ℕ) (old new : List (ℕ × ℕ)) → new ≡ old ++ (if n == 0 then [] else ((n - 1) % places, n - 1) ∷ []) → new ≡ old ++ owed places n
owed_is places zero old new e = e
owed_is places (suc n) old new e =
    let k : suc n - 1 ≡ n = omega arith in
    subst (λ b. new ≡ old ++ (if b then [] else ((suc n - 1) % places, suc n - 1) ∷ [])) (not_zero n) e ∙ ap (λ i. old ++ (i % places, i) ∷ []) k

from_owed : (places n p m : ℕ) → OneOf (p, m) (owed places n) → (n ≡ m + 1) × (p ≡ m % places)
from_owed places zero p m h = elim h [ ]
from_owed places (suc n) p m (inl e) =
    let k : m ≡ n = ap (λ x. x.1) e in let q : p ≡ n % places = ap (λ x. x.0) e in (omega arith, q ∙ ap (λ i. i % places) (sym k))
from_owed places (suc n) p m (inr z) = elim z [ ]

to_owed : (places n p m : ℕ) → n ≡ m + 1 → p ≡ m % places → OneOf (p, m) (owed places n)
to_owed places zero p m e q = absurd (omega arith)
to_owed places (suc n) p m e q = let k : m ≡ n = omega arith in inl (ap (λ i. (i, m)) q ∙ ap (λ i. (i % places, i)) k)

-- each message that the numbers owe is owed by one of them
pub from_all : (places : ℕ) (ns : List ℕ) (p m : ℕ) → OneOf (p, m) (all_owed places ns) → OneOf (m + 1) ns × (p ≡ m % places)
from_all places [] p m h = elim h [ ]
from_all places (n ∷ ns) p m h = elim (member_cases (p, m) (owed places n) (all_owed places ns) h) [
  | inl k ↦ let r = from_owed places n p m k in (inl (sym r.0), r.1)
  | inr k ↦ let r = from_all places ns p m k in (inr r.0, r.1)
]

-- each message that one of the numbers owes is there
pub to_all : (places : ℕ) (ns : List ℕ) (p m : ℕ) → OneOf (m + 1) ns → p ≡ m % places → OneOf (p, m) (all_owed places ns)
to_all places [] p m h q = elim h [ ]
to_all places (n ∷ ns) p m (inl e) q = member_left (p, m) (owed places n) (all_owed places ns) (to_owed places n p m (sym e) q)
to_all places (n ∷ ns) p m (inr h) q = member_right (p, m) (owed places n) (all_owed places ns) (to_all places ns p m h q)

-- numbers that stand once owe each message once
pub all_apart : (places : ℕ) (ns : List ℕ) → HasNoRepeats ns → HasNoRepeats (all_owed places ns)
all_apart places [] a = tt
all_apart places (zero ∷ ns) a = all_apart places ns a.1
all_apart places (suc n ∷ ns) a =
    (λ h. let e : n + 1 ≡ suc n = omega arith in a.0 (subst (λ k. OneOf k ns) e (from_all places ns (n % places) n h).0), all_apart places ns a.1)

-- what one more number owes
pub all_more : (places : ℕ) (ns : List ℕ) (n : ℕ) → all_owed places (ns ++ n ∷ []) ≡ all_owed places ns ++ owed places n
all_more places [] n = append-nil (owed places n)
all_more places (k ∷ ns) n = ap (λ q. owed places k ++ q) (all_more places ns n) ∙ sym (append_assoc (owed places k) (all_owed places ns) (owed places n))

-- the test finds a number
pub has_member : (ns : List ℕ) (m : ℕ) → OneOf m ns → list_any (λ n. n == m) ns ≡ true
has_member [] m h = elim h [ ]
has_member (n ∷ ns) m (inl e) = or_left (n == m) (list_any (λ k. k == m) ns) (eq-eqb n m (sym e))
has_member (n ∷ ns) m (inr h) = or_right (n == m) (list_any (λ k. k == m) ns) (has_member ns m h)

module _ (v w : ℕ × ℕ × List ℕ) (m : ℕ) (place : w.0 ≡ v.0) (places : w.1 ≡ v.1) (more : w.2 ≡ v.2 ++ m ∷ []) where
  new_owed : (p n : ℕ) → OneOf (n + 1) w.2 × (p ≡ n % w.1) → (OneOf (n + 1) v.2 × (p ≡ n % v.1)) ⊎ OneOf (p, n) (owed v.1 m)
  new_owed p n h =
      let q : p ≡ n % v.1 = h.1 ∙ ap (λ k. n % k) places in
      elim (member_cases (n + 1) v.2 (m ∷ []) (subst (λ r. OneOf (n + 1) r) more h.0)) [
        | inl k ↦ inl (k, q)
        | inr k ↦ elim k [ inl e ↦ inr (to_owed v.1 m p n (sym e) q) | inr z ↦ elim z [ ] ]
      ]

  -- a cell with one more number has taken it, where what it owes was appended
  pub delivers_more : v.0 < v.1 → Delivers meaning v m w (owed v.1 m)
  delivers_more h = record {
    whole = omega arith;
    had = has_member w.2 m (subst (λ q. OneOf m q) (sym more) (member_right m v.2 (m ∷ []) (inl refl)));
    owed = new_owed;
    risen = λ _. inl (grind (arith, common_steps));
  }

-- what was appended
pub sent_is : (old new more : List (ℕ × ℕ)) → new ≡ old ++ more → sent old new ≡ more
sent_is old new more e = ap (λ q. sent old q) e ∙ sent_all old more

taken : (ns : List ℕ) (k n : ℕ) → OneOf n (take k ns) → OneOf n ns
taken [] zero n h = h
taken [] (suc k) n h = h
taken (x ∷ ns) zero n h = elim h [ ]
taken (x ∷ ns) (suc k) n (inl e) = inl e
taken (x ∷ ns) (suc k) n (inr h) = inr (taken ns k n h)

take_apart : (ns : List ℕ) (k : ℕ) → HasNoRepeats ns → HasNoRepeats (take k ns)
take_apart [] zero a = a
take_apart [] (suc k) a = a
take_apart (x ∷ ns) zero a = tt
take_apart (x ∷ ns) (suc k) a = (λ h. a.0 (taken ns k x h), take_apart ns k a.1)

-- messages that numbers owe are lawful
pub all_sends : (places : ℕ) (ns : List ℕ) (old new : List (ℕ × ℕ)) → 0 < places → new ≡ old ++ all_owed places ns → Sends (λ p m. p < places) old new
all_sends places ns old new h e =
    let s : sent old new ≡ all_owed places ns = sent_is old new (all_owed places ns) e in record {
      follows = e ∙ ap (λ q. old ++ q) (sym s);
      each = λ x i. let r = from_all places ns x.0 x.1 (subst (λ q. OneOf x q) s i) in let q : x.0 ≡ x.1 % places = r.1 in omega arith;
    }

-- what `list_owed` has appended after some of the numbers
pub record HasListed (v : ℕ × ℕ × List ℕ) (old new : List (ℕ × ℕ)) : Type 0 where
  pub follows : new ≡ old ++ sent old new
  pub sends : v.0 < v.1 → Sends (λ p m. p < v.1) old new
  pub only : (p m : ℕ) → OneOf (p, m) (sent old new) → OneOf (m + 1) v.2 × (p ≡ m % v.1)
  pub once : HasNoRepeats (sent old new)

-- what was appended after the first k numbers
pub lists_some : (v : ℕ × ℕ × List ℕ) (k : ℕ) (old new : List (ℕ × ℕ)) → v.0 < v.1 → HasNoRepeats v.2 → new ≡ old ++ all_owed v.1 (take k v.2) → HasListed v old new
lists_some v k old new h a e =
    let s : sent old new ≡ all_owed v.1 (take k v.2) = sent_is old new (all_owed v.1 (take k v.2)) e in record {
      follows = e ∙ ap (λ q. old ++ q) (sym s);
      sends = λ w. all_sends v.1 (take k v.2) old new (omega arith) e;
      only = λ p m i. let r = from_all v.1 (take k v.2) p m (subst (λ q. OneOf (p, m) q) s i) in (taken v.2 k (m + 1) r.0, r.1);
      once = subst HasNoRepeats (sym s) (all_apart v.1 (take k v.2) (take_apart v.2 k a));
    }

-- after all numbers, all that is owed was appended
pub lists_every : (v : ℕ × ℕ × List ℕ) (k : ℕ) (old new : List (ℕ × ℕ)) → length v.2 ≤ k → new ≡ old ++ all_owed v.1 (take k v.2) → (p m : ℕ) → OneOf (m + 1) v.2 × (p ≡ m % v.1) → OneOf (p, m) (sent old new)
lists_every v k old new h e p m o =
    let t : take k v.2 ≡ v.2 = grind (arith, common_steps) in
    let s : sent old new ≡ all_owed v.1 v.2 = sent_is old new (all_owed v.1 v.2) (e ∙ ap (λ q. old ++ all_owed v.1 q) t) in
    subst (λ q. OneOf (p, m) q) (sym s) (to_all v.1 v.2 p m o.0 o.1)

-- the number that a loop reads
pub at_read : (ns : List ℕ) (k : ℕ) → k < length ns → At ns k (get_or ns k 0)
at_read [] k h = absurd (omega arith)
at_read (n ∷ ns) zero h = refl
at_read (n ∷ ns) (suc k) h = at_read ns k (omega arith)

-- one more number was gone through
pub lists_more : (v : ℕ × ℕ × List ℕ) (k n : ℕ) (old now new : List (ℕ × ℕ)) → At v.2 k n → now ≡ old ++ all_owed v.1 (take k v.2) → new ≡ now ++ owed v.1 n → new ≡ old ++ all_owed v.1 (take (k + 1) v.2)
lists_more v k n old now new at e f =
    let t : take (k + 1) v.2 ≡ take k v.2 ++ n ∷ [] = rw add-one (take_at v.2 k n at) in
    f ∙ ap (λ q. q ++ owed v.1 n) e ∙ append_assoc old (all_owed v.1 (take k v.2)) (owed v.1 n) ∙ ap (λ q. old ++ q) (sym (all_more v.1 (take k v.2) n) ∙ sym (ap (λ q. all_owed v.1 q) t))

-- a number that was not found stands once at the end
pub apart_new : (ns new : List ℕ) (m : ℕ) → HasNoRepeats ns → list_any (λ n. n == m) ns ≡ false → new ≡ ns ++ m ∷ [] → HasNoRepeats new
apart_new ns new m a h e = subst HasNoRepeats (sym e) (apart_more ns m a (λ i. let k : list_any (λ n. n == m) ns ≡ true = has_member ns m i in cc))
