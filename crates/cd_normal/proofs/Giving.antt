-- What the forms of axioms give.
use Rattle.std.proofs.Common.{◌≡◌, ℕ, ◌<◌, true, false, List, [], ◌∷◌, ◌++◌, map, length, refl, sym, subst, ◌∙◌, inl, inr, arith}
use Rattle.cd_meaning.specs.declared.expression.Expr.{Expr}
use Rattle.cd_meaning.specs.declared.expression.Axiom.TheVariants.{SubClass, SameClasses, DisjointUnion}
use Rattle.cd_base.specs.Lists.{OneOf}
use Rattle.cd_nnf.specs.Nnf.{nnf}
use Rattle.cd_normal.specs.declared.maker.Maker.{Maker}
use Rattle.cd_meaning.specs.NormalAxioms.{NormalAxiom, implies}
use Rattle.cd_normal.specs.Represents.{Represents}
use Rattle.cd_normal.specs.NormalForm.{IsFresh, Mentions, circle_from, circle, GivesApart}
use Rattle.cd_normal.specs.Made.{Adds, form, IsUse, IsUseEach, IsGiven, IsGivenBy, IsMentioned, atom_link, link_rows}
use Rattle.cd_normal.proofs.Tests.{member_cases}
use Rattle.cd_normal.proofs.Mentions.{Covers, mentioned_both, mentioned_then, mentioned_none, mention_right, covers_from_each}
use Rattle.cd_normal.proofs.Making.{more, more_each, adds_both, adds_then}

-- around a circle each atom is mentioned
from_here : (a x : ℕ) (xs ys : List ℕ) (start : ℕ) → length xs ≡ length ys → OneOf a (x ∷ xs) → IsMentioned a (circle_from atom_link x xs ys start)
from_here a x [] ys start same (inl is) = (atom_link x start, inl refl, inl (inl is))
from_here a x [] ys start same (inr m) = absurd m
from_here a x (z ∷ xs) [] start same m = absurd (omega (arith, same))
from_here a x (z ∷ xs) (y ∷ ys) start same (inl is) = (atom_link x y, inl refl, inl (inl is))
from_here a x (z ∷ xs) (y ∷ ys) start same (inr m) = let w = from_here a z xs ys start (omega (arith, same)) m in (w.0, inr w.1, w.2)

to_there : (a x : ℕ) (xs ys : List ℕ) (start : ℕ) → length xs ≡ length ys → OneOf a (start ∷ ys) → IsMentioned a (circle_from atom_link x xs ys start)
to_there a x [] [] start same (inl is) = (atom_link x start, inl refl, inr (inl is))
to_there a x [] [] start same (inr m) = absurd m
to_there a x [] (y ∷ ys) start same m = absurd (omega (arith, same))
to_there a x (z ∷ xs) [] start same m = absurd (omega (arith, same))
to_there a x (z ∷ xs) (y ∷ ys) start same (inl is) = let w = to_there a z xs ys start (omega (arith, same)) (inl is) in (w.0, inr w.1, w.2)
to_there a x (z ∷ xs) (y ∷ ys) start same (inr (inl is)) = (atom_link x y, inl refl, inr (inl is))
to_there a x (z ∷ xs) (y ∷ ys) start same (inr (inr m)) = let w = to_there a z xs ys start (omega (arith, same)) (inr m) in (w.0, inr w.1, w.2)

covers_circle : (xs ys : List ℕ) → length xs ≡ length ys → Covers (xs ++ ys) (circle atom_link xs ys)
covers_circle [] [] same a m = absurd m
covers_circle [] (y ∷ ys) same a m = absurd (omega (arith, same))
covers_circle (x ∷ xs) [] same a m = absurd (omega (arith, same))
covers_circle (x ∷ xs) (y ∷ ys) same a m = elim (member_cases a (x ∷ xs) (y ∷ ys) m) [
  | inl p ↦ from_here a x xs ys y (omega (arith, same)) p
  | inr q ↦ to_there a x xs ys y (omega (arith, same)) q
]

covers_link : (x y : ℕ) → Covers (x ∷ y ∷ []) (atom_link x y ∷ [])
covers_link x y a (inl is) = (atom_link x y, inl refl, inl (inl is))
covers_link x y a (inr (inl is)) = (atom_link x y, inl refl, inr (inl is))
covers_link x y a (inr (inr m)) = absurd m

covers_union : (c : ℕ) (xs ys : List ℕ) → Covers (xs ++ (ys ++ [])) (implies (c ∷ []) ys ∷ map (λ x. implies (x ∷ []) (c ∷ [])) xs)
covers_union c xs ys a m = elim (member_cases a xs (ys ++ []) m) [
  | inl p ↦ mention_right a (implies (c ∷ []) ys ∷ []) (map (λ x. implies (x ∷ []) (c ∷ [])) xs) (covers_from_each c xs a p)
  | inr q ↦ elim (member_cases a ys [] q) [ inl p ↦ (implies (c ∷ []) ys, inl refl, inr p) | inr z ↦ absurd z ]
]

module _ (classes : ℕ) where
  -- one use, and one axiom that mentions its atom
  pub given_one : (old mid new : Maker) (c : Expr) (row : ℕ → NormalAxiom) (x : ℕ) → IsUse classes old mid true (form false c) x → new.next ≡ mid.next → Adds mid new (row x ∷ []) → Mentions x (row x)
      → IsGiven classes old new (λ F axs. (y : ℕ) × (a : List NormalAxiom) × Represents classes F true (nnf c) y a × (axs ≡ row y ∷ a))
  given_one old mid new c row x first next adds told = λ labels count.
      let m = first labels count in
      record {
        after = m.after;
        grows = m.grows;
        count = m.count ∙ sym next;
        axs = row x ∷ m.axs;
        made = (x, m.axs, m.uses, refl);
        adds = adds_both old mid new m.axs (row x ∷ []) m.adds adds;
        paired = m.paired;
        mentioned = mentioned_both old mid new (x ∷ []) [] m.axs (row x ∷ []) m.mentioned
            (λ a is. elim is [ inl e ↦ (row x, inl refl, subst (λ z. Mentions z (row x)) (sym e) told) | inr z ↦ absurd z ])
            (mentioned_none mid new [] (row x ∷ []) (omega (arith, next)));
      }

  pub given_sub : (old m1 m2 new : Maker) (c d : Expr) (x y : ℕ) → IsUse classes old m1 false (form false c) x → IsUse classes m1 m2 true (form false d) y → new.next ≡ m2.next → Adds m2 new (link_rows true x (y ∷ [])) → IsGivenBy classes old new (SubClass c d)
  given_sub old m1 m2 new c d x y f g next adds = λ k labels count.
      let a = f labels count in
      let b = g a.after a.count in
      record {
        after = b.after;
        grows = λ n l h. b.grows n l (a.grows n l h);
        count = b.count ∙ sym next;
        axs = atom_link x y ∷ (a.axs ++ b.axs);
        made = (x, y, a.axs, b.axs, more classes (IsFresh classes a.after) (IsFresh classes b.after) b.grows a.uses, b.uses, refl);
        adds = adds_both old m2 new (a.axs ++ b.axs) (atom_link x y ∷ []) (adds_then old m1 m2 a.axs b.axs a.adds b.adds) adds;
        paired = λ p. b.paired (a.paired p);
        mentioned = mentioned_both old m2 new (x ∷ y ∷ []) [] (a.axs ++ b.axs) (atom_link x y ∷ []) (mentioned_then old m1 m2 (x ∷ []) (y ∷ []) a.axs b.axs a.mentioned b.mentioned)
            (covers_link x y) (mentioned_none m2 new [] (atom_link x y ∷ []) (omega (arith, next)));
      }

  pub given_same : (old m1 m2 new : Maker) (l : List Expr) (xs ys : List ℕ) → IsUseEach classes old m1 false (map (form false) l) xs → IsUseEach classes m1 m2 true (map (form false) l) ys → length xs ≡ length ys
      → new.next ≡ m2.next → Adds m2 new (circle atom_link xs ys) → IsGivenBy classes old new (SameClasses l)
  given_same old m1 m2 new l xs ys f g same next adds = λ k labels count.
      let a = f labels count in
      let b = g a.after a.count in
      record {
        after = b.after;
        grows = λ n l h. b.grows n l (a.grows n l h);
        count = b.count ∙ sym next;
        axs = circle atom_link xs ys ++ (a.axs ++ b.axs);
        made = (xs, ys, a.axs, b.axs, more_each classes (IsFresh classes a.after) (IsFresh classes b.after) b.grows a.uses, b.uses, refl);
        adds = adds_both old m2 new (a.axs ++ b.axs) (circle atom_link xs ys) (adds_then old m1 m2 a.axs b.axs a.adds b.adds) adds;
        paired = λ p. b.paired (a.paired p);
        mentioned = mentioned_both old m2 new (xs ++ ys) [] (a.axs ++ b.axs) (circle atom_link xs ys) (mentioned_then old m1 m2 xs ys a.axs b.axs a.mentioned b.mentioned)
            (covers_circle xs ys same) (mentioned_none m2 new [] (circle atom_link xs ys) (omega (arith, next)));
      }

  pub given_union : (old m1 m2 m3 m4 new : Maker) (c : ℕ) (l : List Expr) (xs ys : List ℕ) → c < classes → IsUseEach classes old m1 false (map (form false) l) xs → IsUseEach classes m1 m2 true (map (form false) l) ys
      → ((k : ℕ) → IsGiven classes m2 m3 (λ F axs. GivesApart classes F k l axs)) → m4.next ≡ m3.next → Adds m3 m4 (link_rows false c xs) → new.next ≡ m4.next → Adds m4 new (implies (c ∷ []) ys ∷ [])
      → IsGivenBy classes old new (DisjointUnion c l)
  given_union old m1 m2 m3 m4 new c l xs ys below f g h next4 adds4 next5 adds5 = λ k labels count.
      let a = f labels count in
      let b = g a.after a.count in
      let d = h k b.after b.count in
      let bs = implies (c ∷ []) ys ∷ map (λ x. implies (x ∷ []) (c ∷ [])) xs in
      let rest = a.axs ++ (b.axs ++ d.axs) in
      record {
        after = d.after;
        grows = λ n l h. d.grows n l (b.grows n l (a.grows n l h));
        count = d.count ∙ sym next4 ∙ sym next5;
        axs = bs ++ rest;
        made = (
          xs,
          ys,
          a.axs,
          b.axs,
          d.axs,
          below,
          more_each classes (IsFresh classes a.after) (IsFresh classes d.after) (λ n l h. d.grows n l (b.grows n l h)) a.uses,
          more_each classes (IsFresh classes b.after) (IsFresh classes d.after) d.grows b.uses,
          d.made,
          refl,
        );
        adds = adds_both old m3 new rest bs (adds_then old m1 m3 a.axs (b.axs ++ d.axs) a.adds (adds_then m1 m2 m3 b.axs d.axs b.adds d.adds))
            (adds_both m3 m4 new (map (λ x. implies (x ∷ []) (c ∷ [])) xs) (implies (c ∷ []) ys ∷ []) adds4 adds5);
        paired = λ p. d.paired (b.paired (a.paired p));
        mentioned = mentioned_both old m3 new (xs ++ (ys ++ [])) [] rest bs
            (mentioned_then old m1 m3 xs (ys ++ []) a.axs (b.axs ++ d.axs) a.mentioned (mentioned_then m1 m2 m3 ys [] b.axs d.axs b.mentioned d.mentioned))
            (covers_union c xs ys) (mentioned_none m3 new [] bs (omega (arith, next4, next5)));
      }
