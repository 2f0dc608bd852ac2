-- How what several calls append goes together.
use Rattle.std.proofs.Common.{◌≡◌, ◌⊎◌, ℕ, ◌+◌, ◌-◌, ◌<◌, ◌≤◌, List, [], ◌∷◌, ◌++◌, length, get_or, take, drop, Result, Ok, Err, refl, sym, ◌∙◌, ap, subst, inl, inr, arith}
use Rattle.std.specs.Result.{IsOk, IsErr}
use Rattle.std.proofs.lemmas.Bool.{cases_lt}
use Rattle.std.proofs.lemmas.List.{append_assoc, append-nil, nil_from_length, take_all}
use Rattle.cd_base.specs.Appends.{Appends}
use Rattle.cd_base.specs.Lists.{OneOf}
use Rattle.cd_base.proofs.Members.{member_left, member_right, member_cases, member_get}

-- what is among some is among more
abbrev pub Grows : {X : Type 0} → (X → List X → Type 0) → Type 0
Grows {X} Among = (x : X) (xs ys : List X) → Among x xs ⊎ Among x ys → Among x (xs ++ ys)

pub member_grows : {X : Type 0} (x : X) (xs ys : List X) → OneOf x xs ⊎ OneOf x ys → OneOf x (xs ++ ys)
member_grows x xs ys (inl m) = member_left x xs ys m
member_grows x xs ys (inr m) = member_right x xs ys m

-- nothing was appended, and nothing was to be
pub none : {X : Type 0} {Among : X → List X → Type 0} (P : X → Type 0) (Done : Type 0) (old : List X) → (Done → (x : X) → P x → ⊥) → Appends Among P Done old old
none P Done old e = record {
  added = [];
  follows = sym (append-nil old);
  only = λ x m. absurd m;
  every = λ h x p. absurd (e h x p);
}

-- one work after another
pub both : {X : Type 0} {Among : X → List X → Type 0} (grows : Grows Among) (P Q : X → Type 0) (Done Done' : Type 0) (old mid new : List X)
    → Appends Among P Done old mid → Appends Among Q Done' mid new → Appends Among (λ x. P x ⊎ Q x) (Done × Done') old new
both grows P Q Done Done' old mid new a b = record {
  added = a.added ++ b.added;
  follows = b.follows ∙ ap (λ w. w ++ b.added) a.follows ∙ append_assoc old a.added b.added;
  only = λ x m. elim (member_cases x a.added b.added m) [ inl l ↦ inl (a.only x l) | inr r ↦ inr (b.only x r) ];
  every = λ h x p. elim p [ inl q ↦ grows x a.added b.added (inl (a.every h.0 x q)) | inr q ↦ grows x a.added b.added (inr (b.every h.1 x q)) ];
}

-- the same of other words, or where less is promised
pub otherwise : {X : Type 0} {Among : X → List X → Type 0} (P Q : X → Type 0) (Done Done' : Type 0) (old new : List X)
    → ((x : X) → P x → Q x) → (Done' → (x : X) → Q x → P x) → (Done' → Done) → Appends Among P Done old new → Appends Among Q Done' old new
otherwise P Q Done Done' old new f g h a = record {
  added = a.added;
  follows = a.follows;
  only = λ x m. f x (a.only x m);
  every = λ e x q. a.every (h e) x (g e x q);
}

-- what the exit of a `?` returns is no success
pub failed : {T E : Type 0} (r : Result T E) → IsErr r → IsOk r → ⊥
failed (Ok x) e h = cc
failed (Err y) e h = cc

-- ---- a walk over items, each of which appends what it adds

-- Q of one of the items
abbrev pub OfOne : {I X : Type 0} → (I → X → Type 0) → List I → X → Type 0
OfOne {I} Q items x = (item : I) × OneOf item items × Q item x

-- the items before the rest have appended what they add
pub record HasWalked {I X : Type 0} (Among : X → List X → Type 0) (Q : I → X → Type 0) (all rest : List I) (old new : List X) : Type 0 where
  pub seen : List I
  pub split : all ≡ seen ++ rest
  pub appended : Appends Among (OfOne Q seen) (Unit {0}) old new

pub walk_begins : {I X : Type 0} {Among : X → List X → Type 0} (Q : I → X → Type 0) (all : List I) (old : List X) → HasWalked Among Q all all old old
walk_begins Q all old = record { seen = []; split = refl; appended = none (OfOne Q []) (Unit {0}) old (λ h x q. absurd q.1) }

-- the item that comes next is one of all
pub walk_item : {I X : Type 0} {Among : X → List X → Type 0} (Q : I → X → Type 0) (all rest : List I) (d : I) (old new : List X)
    → HasWalked Among Q all rest old new → 1 ≤ length rest → OneOf (get_or rest 0 d) all
walk_item {I} Q all rest d old new w l =
    subst (λ (xs : List I). OneOf (get_or rest 0 d) xs) (sym w.split) (member_right (get_or rest 0 d) w.seen rest (member_get rest 0 d (omega arith)))

pub next_member : {I X : Type 0} {Among : X → List X → Type 0} (Q : I → X → Type 0) (all rest : List I) (item : I) (old new : List X)
    → HasWalked Among Q all rest old new → 1 ≤ length rest → item ≡ get_or rest 0 item → OneOf item all
next_member {I} Q all rest item old new w l is =
    subst (λ (i : I). OneOf i all) (sym is) (walk_item Q all rest item old new w l)

seen_more : {I X : Type 0} (Q : I → X → Type 0) (seen : List I) (item : I) (x : X) → OfOne Q seen x ⊎ Q item x → OfOne Q (seen ++ item ∷ []) x
seen_more Q seen item x (inl q) = (q.0, member_left q.0 seen (item ∷ []) q.1, q.2)
seen_more Q seen item x (inr q) = (item, member_right item seen (item ∷ []) (inl refl), q)

more_seen : {I X : Type 0} (Q : I → X → Type 0) (seen : List I) (item : I) (x : X) → OfOne Q (seen ++ item ∷ []) x → OfOne Q seen x ⊎ Q item x
more_seen Q seen item x q = elim (member_cases q.0 seen (item ∷ []) q.1) [
  | inl m ↦ inl (q.0, m, q.2)
  | inr m ↦ elim m [ inl e ↦ inr (subst (λ w. Q w x) e q.2) | inr n ↦ absurd n ]
]

-- one more item has appended what it adds
pub walk_goes : {I X : Type 0} {Among : X → List X → Type 0} (grows : Grows Among) (Q : I → X → Type 0) (all rest : List I) (n : ℕ) (item : I) (Done : Type 0) (old mid new : List X)
    → HasWalked Among Q all rest old mid → n ≡ length rest → 1 ≤ length rest → item ≡ get_or rest 0 item → Appends Among (Q item) Done mid new → Done
    → HasWalked Among Q all (take (n - 1) (drop 1 rest)) old new
walk_goes grows Q all [] n item Done old mid new w e l is a done = absurd (omega arith)
walk_goes {I} grows Q all (x ∷ rest) n item Done old mid new w e l is a done =
    let left : take (n - 1) rest ≡ rest = take_all (n - 1) rest (omega (arith, e)) in
    let here : all ≡ (w.seen ++ item ∷ []) ++ rest
    = w.split ∙ ap (λ (y : I). w.seen ++ y ∷ rest) (sym is) ∙ sym (append_assoc w.seen (item ∷ []) rest) in
    record {
      seen = w.seen ++ item ∷ [];
      split = here ∙ ap (λ (l : List I). (w.seen ++ item ∷ []) ++ l) (sym left);
      appended = otherwise (λ d. OfOne Q w.seen d ⊎ Q item d) (OfOne Q (w.seen ++ item ∷ [])) (Unit {0} × Done) (Unit {0}) old new
          (λ d q. seen_more Q w.seen item d q) (λ u d q. more_seen Q w.seen item d q) (λ u. (tt, done))
          (both grows (OfOne Q w.seen) (Q item) (Unit {0}) Done old mid new w.appended a);
    }

-- an item was not done with
pub walk_stops_as : {I X : Type 0} {Among : X → List X → Type 0} (grows : Grows Among) (Q : I → X → Type 0) (P : X → Type 0) (all rest : List I) (item : I) (Done Done' : Type 0) (old mid new : List X)
    → HasWalked Among Q all rest old mid → 1 ≤ length rest → item ≡ get_or rest 0 item → Appends Among (Q item) Done mid new → (Done' → ⊥) → ((x : X) → OfOne Q all x → P x)
    → Appends Among P Done' old new
walk_stops_as grows Q P all [] item Done Done' old mid new w l is a undone f = absurd (omega arith)
walk_stops_as {I} grows Q P all (x ∷ rest) item Done Done' old mid new w l is a undone f =
    let here : (w.seen ++ item ∷ []) ++ rest ≡ all
    = append_assoc w.seen (item ∷ []) rest ∙ ap (λ (y : I). w.seen ++ y ∷ rest) is ∙ sym w.split in
    otherwise (λ d. OfOne Q w.seen d ⊎ Q item d) P (Unit {0} × Done) Done' old new
    (λ d q. let m = seen_more Q w.seen item d q in f d (m.0, subst (λ (l : List I). OneOf m.0 l) here (member_left m.0 (w.seen ++ item ∷ []) rest m.1), m.2))
    (λ h d q. absurd (undone h)) (λ h. absurd (undone h))
    (both grows (OfOne Q w.seen) (Q item) (Unit {0}) Done old mid new w.appended a)

-- each item has appended what it adds
pub walk_ends_as : {I X : Type 0} {Among : X → List X → Type 0} (Q : I → X → Type 0) (P : X → Type 0) (all rest : List I) (Done : Type 0) (old new : List X)
    → HasWalked Among Q all rest old new → length rest < 1 → ((x : X) → OfOne Q all x → P x) → ((x : X) → P x → OfOne Q all x) → Appends Among P Done old new
walk_ends_as {I} Q P all rest Done old new w short f g =
    let none_left : rest ≡ [] = nil_from_length rest (omega arith) in
    let same : w.seen ≡ all = sym (w.split ∙ ap (λ (l : List I). w.seen ++ l) none_left ∙ append-nil w.seen) in
    otherwise (OfOne Q w.seen) P (Unit {0}) Done old new
    (λ d q. f d (subst (λ (l : List I). OfOne Q l d) same q)) (λ h d p. subst (λ (l : List I). OfOne Q l d) (sym same) (g d p)) (λ h. tt) w.appended

-- the same, of what is said of one of all
pub walk_stops : {I X : Type 0} {Among : X → List X → Type 0} (grows : Grows Among) (Q : I → X → Type 0) (all rest : List I) (item : I) (Done Done' : Type 0) (old mid new : List X)
    → HasWalked Among Q all rest old mid → 1 ≤ length rest → item ≡ get_or rest 0 item → Appends Among (Q item) Done mid new → (Done' → ⊥) → Appends Among (OfOne Q all) Done' old new
walk_stops grows Q all rest item Done Done' old mid new w l is a undone = walk_stops_as grows Q (OfOne Q all) all rest item Done Done' old mid new w l is a undone (λ x q. q)

pub walk_ends : {I X : Type 0} {Among : X → List X → Type 0} (Q : I → X → Type 0) (all rest : List I) (Done : Type 0) (old new : List X)
    → HasWalked Among Q all rest old new → length rest < 1 → Appends Among (OfOne Q all) Done old new
walk_ends Q all rest Done old new w short = walk_ends_as Q (OfOne Q all) all rest Done old new w short (λ x q. q) (λ x q. q)

-- ---- places below a number, each of which appends what it adds

-- Q of one of the places below n
abbrev pub OfBelow : {X : Type 0} → (ℕ → X → Type 0) → ℕ → X → Type 0
OfBelow Q n x = (k : ℕ) × (k < n) × Q k x

pub below_begins : {X : Type 0} {Among : X → List X → Type 0} (Q : ℕ → X → Type 0) (old : List X) → Appends Among (OfBelow Q 0) (Unit {0}) old old
below_begins Q old = none (OfBelow Q 0) (Unit {0}) old (λ h x q. omega (arith, q.1))

below_more : {X : Type 0} (Q : ℕ → X → Type 0) (i : ℕ) (x : X) → OfBelow Q (i + 1) x → OfBelow Q i x ⊎ Q i x
below_more Q i x q = elim (cases_lt q.0 i) [
  | inl l ↦ inl (q.0, l, q.2)
  | inr g ↦ (let e : q.0 ≡ i = omega (arith, q.1, g) in inr (subst (λ (k : ℕ). Q k x) e q.2))
]

-- one more place has appended what it adds
pub below_goes : {X : Type 0} {Among : X → List X → Type 0} (grows : Grows Among) (Q : ℕ → X → Type 0) (i : ℕ) (Done : Type 0) (old mid new : List X)
    → Appends Among (OfBelow Q i) (Unit {0}) old mid → Appends Among (Q i) Done mid new → Done → Appends Among (OfBelow Q (i + 1)) (Unit {0}) old new
below_goes grows Q i Done old mid new w a done =
    otherwise (λ x. OfBelow Q i x ⊎ Q i x) (OfBelow Q (i + 1)) (Unit {0} × Done) (Unit {0}) old new
    (λ x q. elim q [ inl p ↦ (p.0, omega (arith, p.1), p.2) | inr p ↦ (i, omega arith, p) ])
    (λ u x q. below_more Q i x q) (λ u. (tt, done))
    (both grows (OfBelow Q i) (Q i) (Unit {0}) Done old mid new w a)

-- a place was not done with
pub below_stops : {X : Type 0} {Among : X → List X → Type 0} (grows : Grows Among) (Q : ℕ → X → Type 0) (i n : ℕ) (Done Done' : Type 0) (old mid new : List X)
    → Appends Among (OfBelow Q i) (Unit {0}) old mid → i < n → Appends Among (Q i) Done mid new → (Done' → ⊥) → Appends Among (OfBelow Q n) Done' old new
below_stops grows Q i n Done Done' old mid new w l a undone =
    otherwise (λ x. OfBelow Q i x ⊎ Q i x) (OfBelow Q n) (Unit {0} × Done) Done' old new
    (λ x q. elim q [ inl p ↦ (p.0, omega (arith, p.1, l), p.2) | inr p ↦ (i, l, p) ])
    (λ h x q. absurd (undone h)) (λ h. absurd (undone h))
    (both grows (OfBelow Q i) (Q i) (Unit {0}) Done old mid new w a)
