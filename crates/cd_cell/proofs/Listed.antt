-- What contexts owe, listed context by context.
use Rattle.std.proofs.Common.{◌≡◌, ℕ, List, [], ◌∷◌, ◌++◌, refl, sym, ap, subst, ◌∙◌, inl, inr, append_assoc}
use Rattle.std.proofs.lemmas.List.{map-append}
use Rattle.cd_base.proofs.Members.{member_left, member_right, member_cases, member_map}
use Rattle.cd_base.specs.Lists.{OneOf, HasNoRepeats}
use Rattle.cd_base.specs.declared.normal.Normal.{Normal}
use Rattle.cd_context.specs.Contract.{ListsOwed}
use Rattle.cd_context.specs.Owes.{Owes, owes_link, owes_back, owes_sure, owes_dead}
use Rattle.cd_context.specs.State.{State}
use Rattle.cd_context.specs.declared.facts.Fact.{Fact}
use Rattle.cd_context.specs.declared.facts.Fact.TheVariants.{Start, Link, Back, Sure, Dead}
use Rattle.cd_context.specs.declared.facts.Note.{Note}
use Rattle.cd_cell.specs.Telling.{AreOwn, AreOwed}
use Rattle.cd_cell.proofs.Puts.{keys_of}

-- the key of the context that sends the fact
abbrev pub sender : Fact → List ℕ
sender Start = []
sender (Link h r) = h
sender (Back r k a) = k
sender (Sure r k a) = k
sender (Dead r k) = k

pub owes_sender : (n : Normal) (s : State) (note : Note) → Owes n s note → sender note.fact ≡ s.key
owes_sender n s note (owes_link r k c m e q) = ap (λ (w : Note). sender w.fact) q
owes_sender n s note (owes_back h r c t l m e tm u q) = ap (λ (w : Note). sender w.fact) q
owes_sender n s note (owes_sure h r c t l m e tm u q) = ap (λ (w : Note). sender w.fact) q
owes_sender n s note (owes_dead h r l m q) = ap (λ (w : Note). sender w.fact) q

-- ---- elements that stand once

pub apart_join : {X : Type 0} (xs ys : List X) → HasNoRepeats xs → HasNoRepeats ys → ((x : X) → OneOf x xs → OneOf x ys → ⊥) → HasNoRepeats (xs ++ ys)
apart_join [] ys a b d = b
apart_join (x ∷ xs) ys a b d = (
  λ m. elim (member_cases x xs ys m) [ inl p ↦ a.0 p | inr p ↦ d x (inl refl) p ],
  apart_join xs ys a.1 b (λ y p q. d y (inr p) q),
)

pub apart_seam : {X : Type 0} (xs : List X) (y : X) (ys : List X) → HasNoRepeats (xs ++ y ∷ ys) → OneOf y xs → ⊥
apart_seam [] y ys a m = absurd m
apart_seam (x ∷ xs) y ys a (inl e) = a.0 (member_right x xs (y ∷ ys) (inl (sym e)))
apart_seam (x ∷ xs) y ys a (inr m) = apart_seam xs y ys a.1 m

-- ---- the walk

-- the notes are what the contexts before the rest owe
pub record IsListing (n : Normal) (contexts rest : List (List ℕ × State)) (notes : List Note) : Type 0 where
  pub done : List (List ℕ × State)
  pub is : contexts ≡ done ++ rest
  pub owed : AreOwed n done notes

pub listing_goes : (n : Normal) (contexts rest : List (List ℕ × State)) (k : List ℕ) (s : State) (others : List (List ℕ × State)) (notes more : List Note) (Done : Type 0) → Done
    → AreOwn contexts → HasNoRepeats (keys_of contexts) → rest ≡ (k, s) ∷ others → IsListing n contexts rest notes → ListsOwed n Done s notes more → IsListing n contexts others more
listing_goes n contexts rest k s others notes more Done did own apart e g a =
    let all : contexts ≡ g.done ++ (k, s) ∷ others = g.is ∙ ap (λ (l : List (List ℕ × State)). g.done ++ l) e in
    let keys : HasNoRepeats (keys_of g.done ++ k ∷ keys_of others) = subst HasNoRepeats (ap keys_of all ∙ map-append (λ (x : List ℕ × State). x.0) g.done ((k, s) ∷ others)) apart in
    let owner : (h : List ℕ) (t : State) → OneOf (h, t) (g.done ++ (k, s) ∷ others) → t.key ≡ h = λ h t m. own h t (subst (λ (l : List (List ℕ × State)). OneOf (h, t) l) (sym all) m) in
    let last : s.key ≡ k = owner k s (member_right (k, s) g.done ((k, s) ∷ others) (inl refl)) in
    let clash : (note : Note) → OneOf note notes → OneOf note a.added → ⊥ = λ note p q.
    let w = g.owed.only note p in
    let first : w.1.key ≡ w.0 = owner w.0 w.1 (member_left (w.0, w.1) g.done ((k, s) ∷ others) w.2) in
    let same : w.0 ≡ k = sym first ∙ sym (owes_sender n w.1 note w.3) ∙ owes_sender n s note (a.only note q) ∙ last in
    apart_seam (keys_of g.done) k (keys_of others) keys
    (subst (λ (h : List ℕ). OneOf h (keys_of g.done)) same (member_map (λ (x : List ℕ × State). x.0) (w.0, w.1) g.done w.2)) in record {
      done = g.done ++ (k, s) ∷ [];
      is = all ∙ sym (append_assoc g.done ((k, s) ∷ []) others);
      owed = subst (AreOwed n (g.done ++ (k, s) ∷ [])) (sym a.follows) (record {
        only = λ note m. elim (member_cases note notes a.added m) [
          | inl p ↦ (let w = g.owed.only note p in (w.0, w.1, member_left (w.0, w.1) g.done ((k, s) ∷ []) w.2, w.3))
          | inr p ↦ (k, s, member_right (k, s) g.done ((k, s) ∷ []) (inl refl), a.only note p)
        ];
        once = apart_join notes a.added g.owed.once a.once clash;
        every = λ h t m note o. elim (member_cases (h, t) g.done ((k, s) ∷ []) m) [
          | inl p ↦ member_left note notes a.added (g.owed.every h t p note o)
          | inr p ↦ elim p [
            | inl q ↦ member_right note notes a.added (a.every did note (subst (λ (w : State). Owes n w note) (ap (λ (x : List ℕ × State). x.1) q) o))
            | inr z ↦ absurd z
          ]
        ];
      });
    }
