-- A set of notes that takes each of a list has each of them, once.
use Rattle.std.proofs.Common.{◌≡◌, ◌⊎◌, ◌&&◌, ℕ, Bool, true, nat_eq, eqb, List, [], ◌∷◌, ◌++◌, refl, sym, ◌∙◌, ap, subst, inl, inr, eqb-true}
use Rattle.std.specs.Cmp.Lexicographic.{pointwise}
use Rattle.std.specs.List.{list_any}
use Rattle.std.proofs.lemmas.Bool.{and_parts, both_ways, cond_both}
use Rattle.std.proofs.lemmas.Bool.Decides.{Decides-eqb}
use Rattle.std.proofs.lemmas.Slice.Eq.{slice_eq-Decides}
use Rattle.std.proofs.lemmas.List.{append_assoc, append-nil}
use Rattle.indexmap.specs.IndexSet.{insert_key, insert_all}
use Rattle.cd_base.specs.Lists.{OneOf, HasNoRepeats}
use Rattle.cd_base.proofs.Members.{any_by_member, any_member, member_left, member_right, member_cases}
use Rattle.cd_context.specs.contracts.facts.FactPartialEq.TheImpl as facts
use Rattle.cd_context.specs.contracts.facts.NotePartialEq.TheImpl as notes
use Rattle.cd_context.specs.contracts.facts.NoteEq.TheImpl.Laws.{laws-law}
use Rattle.cd_context.specs.declared.facts.Fact.{Fact}
use Rattle.cd_context.specs.declared.facts.Fact.TheVariants.{Start, Link, Back, Sure, Dead}
use Rattle.cd_context.specs.declared.facts.Note.{Note}
use Rattle.cd_base.specs.Appends.{AppendsOnce}
use Rattle.cd_context.specs.EachOnce.{HasEachOnce}

-- ---- what equal notes are

pub same_key-true : (k l : List ℕ) → pointwise nat_eq k l ≡ true → k ≡ l
same_key-true k l e = (slice_eq-Decides Decides-eqb k l (pointwise nat_eq k l) refl).0 e

same_fact-true : (f g : Fact) → (facts.ghosts).eq f g ≡ true → f ≡ g
same_fact-true Start Start e = refl
same_fact-true Start (Link l s) e = cc
same_fact-true Start (Back s l b) e = cc
same_fact-true Start (Sure s l b) e = cc
same_fact-true Start (Dead s l) e = cc
same_fact-true (Link k r) Start e = cc
same_fact-true (Link k r) (Link l s) e =
    let p = and_parts (pointwise nat_eq k l) (eqb r s) e in
    let key : k ≡ l = same_key-true k l p.0 in
    let role : r ≡ s = eqb-true r s p.1 in
    cc
same_fact-true (Link k r) (Back s l b) e = cc
same_fact-true (Link k r) (Sure s l b) e = cc
same_fact-true (Link k r) (Dead s l) e = cc
same_fact-true (Back r k a) Start e = cc
same_fact-true (Back r k a) (Link l s) e = cc
same_fact-true (Back r k a) (Back s l b) e =
    let p = and_parts (eqb r s) (pointwise nat_eq k l && eqb a b) e in
    let q = and_parts (pointwise nat_eq k l) (eqb a b) p.1 in
    let role : r ≡ s = eqb-true r s p.0 in
    let key : k ≡ l = same_key-true k l q.0 in
    let atom : a ≡ b = eqb-true a b q.1 in
    cc
same_fact-true (Back r k a) (Sure s l b) e = cc
same_fact-true (Back r k a) (Dead s l) e = cc
same_fact-true (Sure r k a) Start e = cc
same_fact-true (Sure r k a) (Link l s) e = cc
same_fact-true (Sure r k a) (Back s l b) e = cc
same_fact-true (Sure r k a) (Sure s l b) e =
    let p = and_parts (eqb r s) (pointwise nat_eq k l && eqb a b) e in
    let q = and_parts (pointwise nat_eq k l) (eqb a b) p.1 in
    let role : r ≡ s = eqb-true r s p.0 in
    let key : k ≡ l = same_key-true k l q.0 in
    let atom : a ≡ b = eqb-true a b q.1 in
    cc
same_fact-true (Sure r k a) (Dead s l) e = cc
same_fact-true (Dead r k) Start e = cc
same_fact-true (Dead r k) (Link l s) e = cc
same_fact-true (Dead r k) (Back s l b) e = cc
same_fact-true (Dead r k) (Sure s l b) e = cc
same_fact-true (Dead r k) (Dead s l) e =
    let p = and_parts (eqb r s) (pointwise nat_eq k l) e in
    let role : r ≡ s = eqb-true r s p.0 in
    let key : k ≡ l = same_key-true k l p.1 in
    cc

same_note-true : (x y : Note) → (notes.ghosts).eq x y ≡ true → x ≡ y
same_note-true x y e =
    let p = and_parts (pointwise nat_eq x.key y.key) ((facts.ghosts).eq x.fact y.fact) e in
    let key : x.key ≡ y.key = same_key-true x.key y.key p.0 in
    let fact : x.fact ≡ y.fact = same_fact-true x.fact y.fact p.1 in
    ap (λ (k : List ℕ). record { key = k; fact = x.fact }) key ∙ ap (λ (f : Fact). record { key = y.key; fact = f }) fact

-- ---- inserting

module _ {X : Type 0} (eq : X → X → Bool) where
  inserted : (ks : List X) (x m : X) → OneOf m (insert_key eq ks x) → OneOf m ks ⊎ (m ≡ x)
  inserted ks x m h =
      cond_both (list_any (eq x) ks) ks (ks ++ x ∷ []) (λ (l : List X). OneOf m l → OneOf m ks ⊎ (m ≡ x))
      (λ t n. inl n)
      (λ t n. elim (member_cases m ks (x ∷ []) n) [ inl k ↦ inl k | inr k ↦ elim k [ inl e ↦ inr e | inr z ↦ absurd z ] ])
      h

  inserted_all : (ks xs : List X) (m : X) → OneOf m (insert_all eq ks xs) → OneOf m ks ⊎ OneOf m xs
  inserted_all ks [] m h = inl h
  inserted_all ks (x ∷ xs) m h = elim (inserted_all (insert_key eq ks x) xs m h) [
    | inl k ↦ elim (inserted ks x m k) [ inl n ↦ inl n | inr e ↦ inr (inl e) ]
    | inr k ↦ inr (inr k)
  ]

  module _ (exact : (x y : X) → eq x y ≡ true → x ≡ y) where
    stays : (ks : List X) (x m : X) → OneOf m ks ⊎ (m ≡ x) → OneOf m (insert_key eq ks x)
    stays ks x m h =
        cond_both (list_any (eq x) ks) ks (ks ++ x ∷ []) (λ (l : List X). OneOf m l)
        (λ t. elim h [
          | inl k ↦ k
          | inr e ↦ (let w = any_member (eq x) ks t in subst (λ (z : X). OneOf z ks) (sym (e ∙ exact x w.0 w.2)) w.1)
        ])
        (λ t. elim h [ inl k ↦ member_left m ks (x ∷ []) k | inr e ↦ member_right m ks (x ∷ []) (inl e) ])

    stay_all : (ks xs : List X) (m : X) → OneOf m ks ⊎ OneOf m xs → OneOf m (insert_all eq ks xs)
    stay_all ks [] m (inl h) = h
    stay_all ks [] m (inr h) = absurd h
    stay_all ks (x ∷ xs) m (inl h) = stay_all (insert_key eq ks x) xs m (inl (stays ks x m (inl h)))
    stay_all ks (x ∷ xs) m (inr (inl e)) = stay_all (insert_key eq ks x) xs m (inl (stays ks x m (inr e)))
    stay_all ks (x ∷ xs) m (inr (inr h)) = stay_all (insert_key eq ks x) xs m (inr h)

  apart_more : (ks : List X) (x : X) → HasNoRepeats ks → (OneOf x ks → ⊥) → HasNoRepeats (ks ++ x ∷ [])
  apart_more [] x a d = (λ m. m, tt)
  apart_more (k ∷ ks) x a d = (
    λ m. elim (member_cases k ks (x ∷ []) m) [ inl n ↦ a.0 n | inr n ↦ elim n [ inl e ↦ d (inl (sym e)) | inr z ↦ z ] ],
    apart_more ks x a.1 (λ m. d (inr m)),
  )

  module _ (itself : (x : X) → eq x x ≡ true) where
    apart_key : (ks : List X) (x : X) → HasNoRepeats ks → HasNoRepeats (insert_key eq ks x)
    apart_key ks x a =
        cond_both (list_any (eq x) ks) ks (ks ++ x ∷ []) (λ (l : List X). HasNoRepeats l)
        (λ t. a)
        (λ t. apart_more ks x a (λ m. both_ways (list_any (eq x) ks) t (any_by_member (eq x) ks x m (itself x))))

    apart_all : (ks xs : List X) → HasNoRepeats ks → HasNoRepeats (insert_all eq ks xs)
    apart_all ks [] a = a
    apart_all ks (x ∷ xs) a = apart_all (insert_key eq ks x) xs (apart_key ks x a)

-- ---- notes

pub each_once : (xs found : List Note) → found ≡ insert_all ((notes.ghosts).eq) [] xs → HasEachOnce xs found
each_once xs found is =
    let same = (notes.ghosts).eq in
    subst (HasEachOnce xs) (sym is) record {
      only = λ note m. elim (inserted_all same [] xs note m) [ inl z ↦ absurd z | inr k ↦ k ];
      once = apart_all same (λ x. laws-law.refl x) [] xs tt;
      every = λ note m. stay_all same same_note-true [] xs note (inr m);
    }

-- ---- appending

-- the notes before the rest were appended
pub record IsAdding (all rest old new : List Note) : Type 0 where
  pub seen : List Note
  pub split : all ≡ seen ++ rest
  pub follows : new ≡ old ++ seen

pub adding_begins : (all old : List Note) → IsAdding all all old old
adding_begins all old = record { seen = []; split = refl; follows = sym (append-nil old) }

-- one more was appended
pub adding_goes : (all rest later old mid new : List Note) (note : Note) → IsAdding all rest old mid → rest ≡ note ∷ later → new ≡ mid ++ note ∷ [] → IsAdding all later old new
adding_goes all rest later old mid new note a e f = record {
  seen = a.seen ++ note ∷ [];
  split = a.split ∙ ap (λ (l : List Note). a.seen ++ l) e ∙ sym (append_assoc a.seen (note ∷ []) later);
  follows = f ∙ ap (λ (l : List Note). l ++ note ∷ []) a.follows ∙ append_assoc old a.seen (note ∷ []);
}

apart_left : {X : Type 0} (xs ys : List X) → HasNoRepeats (xs ++ ys) → HasNoRepeats xs
apart_left [] ys a = tt
apart_left (x ∷ xs) ys a = (λ m. a.0 (member_left x xs ys m), apart_left xs ys a.1)

-- some were appended
pub adding_stops : (notes all rest old new : List Note) (Done : Type 0) → HasEachOnce notes all → IsAdding all rest old new → (Done → ⊥) → AppendsOnce (λ note. OneOf note notes) Done old new
adding_stops notes all rest old new Done h a undone = record {
  added = a.seen;
  follows = a.follows;
  only = λ note m. h.only note (subst (λ (l : List Note). OneOf note l) (sym a.split) (member_left note a.seen rest m));
  once = apart_left a.seen rest (subst (λ (l : List Note). HasNoRepeats l) a.split h.once);
  every = λ d note m. absurd (undone d);
}

-- all were appended
pub adding_ends : (notes all rest old new : List Note) (Done : Type 0) → HasEachOnce notes all → IsAdding all rest old new → rest ≡ [] → AppendsOnce (λ note. OneOf note notes) Done old new
adding_ends notes all rest old new Done h a e =
    let same : a.seen ≡ all = sym (a.split ∙ ap (λ (l : List Note). a.seen ++ l) e ∙ append-nil a.seen) in
    record {
      added = a.seen;
      follows = a.follows;
      only = λ note m. h.only note (subst (λ (l : List Note). OneOf note l) same m);
      once = subst (λ (l : List Note). HasNoRepeats l) (sym same) h.once;
      every = λ d note m. subst (λ (l : List Note). OneOf note l) (sym same) (h.every note m);
    }
