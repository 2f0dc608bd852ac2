-- The atoms and roles of what the axioms of a document give are in range.
use Rattle.std.proofs.Common.{◌≡◌, ℕ, suc, ◌<◌, ◌≤◌, true, nat_lt, List, [], ◌∷◌, ◌++◌, map, refl, sym, subst, ◌∙◌, inl, inr, arith}
use Rattle.std.specs.List.{list_all}
use Rattle.std.proofs.lemmas.Bool.{and_parts, and_from}
use Rattle.cd_meaning.specs.declared.expression.Expr.{Expr}
use Rattle.cd_meaning.specs.declared.expression.Axiom.{Axiom}
use Rattle.cd_meaning.specs.declared.expression.Axiom.TheVariants.{SubClass, SameClasses, Disjoint, DisjointUnion, SubRole, SameRoles, Domain, Range}
use Rattle.cd_meaning.specs.Numbered.{is_in_range, has_numbers_below}
use Rattle.cd_meaning.specs.NormalAxioms.{NormalAxiom, n3, n4, implies, triple}
use Rattle.cd_base.specs.Lists.{OneOf}
use Rattle.cd_normal.specs.Represents.{Label, chain_of}
use Rattle.cd_normal.specs.NormalForm.{Chain, Apart, RepresentsApart, GivesApart, Gives, GivesFrom, circle}
use Rattle.cd_normal.specs.Made.{atom_link, role_link}
use Rattle.cd_normal.proofs.Tests.{all_by_member, all_member}
use Rattle.cd_normal.proofs.FitsAxioms.{circle_all, kept_in}
use Rattle.cd_normal.proofs.Ranges.{Within, AllWithin, nnf_below, each_below, none_below, one_below, two_below, implies_within, triple_within, none_within, add_within, join_within, map_within, uses_within, uses_each_within}

module _ (atoms roles classes : ℕ) (F : ℕ → Label → Type 0) (fresh_below : (a : ℕ) (k : Label) → F a k → a < atoms) (enough : classes ≤ atoms) where
  chain_within : (k : ℕ) (before : List Expr) (p : ℕ) (es : List Expr) (xs : List ℕ) (axs : List NormalAxiom) → Chain classes F k before p es xs axs → p < atoms → ((a : ℕ) → OneOf a xs → a < atoms) → AllWithin atoms roles axs
  chain_within k before p [] xs axs h low xs_low = absurd h
  chain_within k before p (e ∷ es) [] axs h low xs_low = absurd h
  chain_within k before p (e ∷ []) (x ∷ xs) axs h low xs_low =
      subst (AllWithin atoms roles) (sym h) (add_within atoms roles (implies (x ∷ p ∷ []) []) [] (implies_within atoms roles (x ∷ p ∷ []) [] (two_below atoms roles x p (xs_low x (inl refl)) low) (none_below atoms roles)) (none_within atoms roles))
  chain_within k before p (e ∷ f ∷ es) (x ∷ xs) axs (q, rest, fresh, chain, is) low xs_low =
      let g = fresh_below q (chain_of k (e ∷ before)) fresh in
      let x_low = xs_low x (inl refl) in
      let more = chain_within k (e ∷ before) q (f ∷ es) xs rest chain g (λ a m. xs_low a (inr m)) in
      subst (AllWithin atoms roles) (sym is)
      (add_within atoms roles (implies (x ∷ []) (q ∷ [])) (implies (p ∷ []) (q ∷ []) ∷ implies (x ∷ p ∷ []) [] ∷ rest) (implies_within atoms roles (x ∷ []) (q ∷ []) (one_below atoms roles x x_low) (one_below atoms roles q g))
      (add_within atoms roles (implies (p ∷ []) (q ∷ [])) (implies (x ∷ p ∷ []) [] ∷ rest) (implies_within atoms roles (p ∷ []) (q ∷ []) (one_below atoms roles p low) (one_below atoms roles q g))
      (add_within atoms roles (implies (x ∷ p ∷ []) []) rest (implies_within atoms roles (x ∷ p ∷ []) [] (two_below atoms roles x p x_low low) (none_below atoms roles)) more)))

  apart_within : (k : ℕ) (es : List Expr) (xs : List ℕ) (axs : List NormalAxiom) → Apart classes F k es xs axs → ((a : ℕ) → OneOf a xs → a < atoms) → AllWithin atoms roles axs
  apart_within k [] xs axs h low = subst (AllWithin atoms roles) (sym h) (none_within atoms roles)
  apart_within k (e ∷ []) xs axs h low = subst (AllWithin atoms roles) (sym h) (none_within atoms roles)
  apart_within k (e ∷ f ∷ []) xs axs h low = subst (AllWithin atoms roles) (sym h) (add_within atoms roles (implies xs []) [] (implies_within atoms roles xs [] low (none_below atoms roles)) (none_within atoms roles))
  apart_within k (e ∷ f ∷ g ∷ es) [] axs h low = absurd h
  apart_within k (e ∷ f ∷ g ∷ es) (x ∷ xs) axs (p, rest, fresh, chain, is) low =
      let q = fresh_below p (chain_of k (e ∷ [])) fresh in
      subst (AllWithin atoms roles) (sym is) (add_within atoms roles (implies (x ∷ []) (p ∷ [])) rest (implies_within atoms roles (x ∷ []) (p ∷ []) (one_below atoms roles x (low x (inl refl))) (one_below atoms roles p q))
      (chain_within k (e ∷ []) p (f ∷ g ∷ es) xs rest chain q (λ a m. low a (inr m))))

  uses_apart_within : (k : ℕ) (es : List Expr) (axs : List NormalAxiom) → RepresentsApart classes F k es axs → list_all (is_in_range classes roles) es ≡ true → AllWithin atoms roles axs
  uses_apart_within k [] axs h all = subst (AllWithin atoms roles) (sym h) (none_within atoms roles)
  uses_apart_within k (e ∷ []) axs h all = subst (AllWithin atoms roles) (sym h) (none_within atoms roles)
  uses_apart_within k (e ∷ f ∷ es) axs (xs, a, b, u, h, is) all =
      let v = uses_each_within atoms roles classes F fresh_below enough u (each_below classes roles (e ∷ f ∷ es) all) in
      subst (AllWithin atoms roles) (sym is) (join_within atoms roles b a (apart_within k (e ∷ f ∷ es) xs b h v.0) v.1)

  gives_apart_within : (k : ℕ) (l : List Expr) (axs : List NormalAxiom) → GivesApart classes F k l axs → list_all (is_in_range classes roles) l ≡ true → AllWithin atoms roles axs
  gives_apart_within k l axs h all = uses_apart_within k h.0 axs h.2 (all_by_member (is_in_range classes roles) h.0 (λ c m. all_member (is_in_range classes roles) l all c (kept_in [] l h.0 h.1 c m).0))

  gives_within : 0 < classes → (k : ℕ) (stated : Axiom) (axs : List NormalAxiom) → Gives classes F k stated axs → has_numbers_below classes roles stated ≡ true → AllWithin atoms roles axs
  gives_within some k (SubClass c d) axs (x, y, a, b, u, v, is) all =
      let p = and_parts (is_in_range classes roles c) (is_in_range classes roles d) all in
      let w = uses_within atoms roles classes F fresh_below enough u ((nnf_below classes roles c).0 ∙ p.0) in
      let z = uses_within atoms roles classes F fresh_below enough v ((nnf_below classes roles d).0 ∙ p.1) in
      subst (AllWithin atoms roles) (sym is) (add_within atoms roles (implies (x ∷ []) (y ∷ [])) (a ++ b) (implies_within atoms roles (x ∷ []) (y ∷ []) (one_below atoms roles x w.0) (one_below atoms roles y z.0)) (join_within atoms roles a b w.1 z.1))
  gives_within some k (SameClasses l) axs (xs, ys, a, b, u, v, is) all =
      let w = uses_each_within atoms roles classes F fresh_below enough u (each_below classes roles l all) in
      let z = uses_each_within atoms roles classes F fresh_below enough v (each_below classes roles l all) in
      subst (AllWithin atoms roles) (sym is) (join_within atoms roles (circle atom_link xs ys) (a ++ b)
      (circle_all (Within atoms roles) atom_link xs ys (λ x. x < atoms) (λ y. y < atoms) (λ x y h k. implies_within atoms roles (x ∷ []) (y ∷ []) (one_below atoms roles x h) (one_below atoms roles y k)) w.0 z.0)
      (join_within atoms roles a b w.1 z.1))
  gives_within some k (Disjoint l) axs h all = gives_apart_within k l axs h all
  gives_within some k (DisjointUnion c l) axs (xs, ys, a, b, d, low, u, v, h, is) all =
      let p = and_parts (nat_lt c classes) (list_all (is_in_range classes roles) l) all in
      let w = uses_each_within atoms roles classes F fresh_below enough u (each_below classes roles l p.1) in
      let z = uses_each_within atoms roles classes F fresh_below enough v (each_below classes roles l p.1) in
      let here : c < atoms = omega (arith, low, enough) in
      subst (AllWithin atoms roles) (sym is) (add_within atoms roles (implies (c ∷ []) ys) (map (λ x. implies (x ∷ []) (c ∷ [])) xs ++ (a ++ (b ++ d))) (implies_within atoms roles (c ∷ []) ys (one_below atoms roles c here) z.0)
      (join_within atoms roles (map (λ x. implies (x ∷ []) (c ∷ [])) xs) (a ++ (b ++ d)) (map_within atoms roles (λ x. implies (x ∷ []) (c ∷ [])) xs w.0 (λ x h. implies_within atoms roles (x ∷ []) (c ∷ []) (one_below atoms roles x h) (one_below atoms roles c here)))
      (join_within atoms roles a (b ++ d) w.1 (join_within atoms roles b d z.1 (gives_apart_within k l d h p.1)))))
  gives_within some k (SubRole r s) axs h all = subst (AllWithin atoms roles) (sym h) (add_within atoms roles (role_link r s) [] all (none_within atoms roles))
  gives_within some k (SameRoles l) axs h all = subst (AllWithin atoms roles) (sym h)
      (circle_all (Within atoms roles) role_link l l (λ r. nat_lt r roles ≡ true) (λ r. nat_lt r roles ≡ true) (λ r s h k. and_from (nat_lt r roles) (nat_lt s roles) h k) (all_member (λ r. nat_lt r roles) l all) (all_member (λ r. nat_lt r roles) l all))
  gives_within some k (Domain r c) axs (x, a, u, is) all =
      let p = and_parts (nat_lt r roles) (is_in_range classes roles c) all in
      let w = uses_within atoms roles classes F fresh_below enough u ((nnf_below classes roles c).0 ∙ p.1) in
      subst (AllWithin atoms roles) (sym is) (add_within atoms roles (n3 (triple 0 r x)) a (triple_within atoms roles 0 r x (omega (arith, some, enough)) p.0 w.0) w.1)
  gives_within some k (Range r c) axs (x, a, u, is) all =
      let p = and_parts (nat_lt r roles) (is_in_range classes roles c) all in
      let w = uses_within atoms roles classes F fresh_below enough u ((nnf_below classes roles c).0 ∙ p.1) in
      subst (AllWithin atoms roles) (sym is) (add_within atoms roles (n4 (triple 0 r x)) a (triple_within atoms roles 0 r x (omega (arith, some, enough)) p.0 w.0) w.1)

  pub from_within : 0 < classes → (k : ℕ) (l : List Axiom) (axs : List NormalAxiom) → GivesFrom classes F k l axs → list_all (has_numbers_below classes roles) l ≡ true → AllWithin atoms roles axs
  from_within some k [] axs h all = subst (AllWithin atoms roles) (sym h) (none_within atoms roles)
  from_within some k (s ∷ l) axs (a, b, g, h, is) all =
      let p = and_parts (has_numbers_below classes roles s) (list_all (has_numbers_below classes roles) l) all in
      subst (AllWithin atoms roles) (sym is) (join_within atoms roles a b (gives_within some k s a g p.0) (from_within some (suc k) l b h p.1))
