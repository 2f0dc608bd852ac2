-- All that is so is read in a printed taxonomy.
use Rattle.std.proofs.Common.{◌≡◌, ℕ, zero, suc, ◌<◌, Bool, true, List, length, refl, sym, subst, arith, inl, inr}
use Rattle.std.specs.List.{Contains}
use Rattle.cd_meaning.specs.Hierarchy.{representatives, members, parents, proper}
use Rattle.cd_meaning.specs.Text.{equivalent_line, subclass_line}
use Rattle.cd_meaning.specs.Reading.{HasLine, Shows, ShowsInSteps, Reads}
use Rattle.cd_taxonomy.specs.Relation.{IsSubsumption}
use Rattle.cd_taxonomy.specs.ReadBack.{AreNames}
use Rattle.cd_taxonomy.proofs.Connected.{connected}
use Rattle.cd_taxonomy.proofs.OneRepresentative.{in_representatives}
use Rattle.cd_taxonomy.proofs.ReadBackSound.{in_members, in_parents}

-- ---- what is read leads on

module _ (names : List (List ℕ)) (bytes : List ℕ) where
  reads_same : (a b : ℕ) → a ≡ b → Reads names bytes a b
  reads_same a b same = (0, same)

  reads_shown : (a b : ℕ) → b < length names → Shows names bytes a b → Reads names bytes a b
  reads_shown a b b_in shows = (1, (b, b_in, shows, refl))

  leads_on : (n a b c : ℕ) → ShowsInSteps names bytes a b n → Reads names bytes b c → Reads names bytes a c
  leads_on zero a b c same reads = subst (λ x. Reads names bytes x c) (sym same) reads
  leads_on (suc n) a b c (d, d_in, shows, leads) reads = let more = leads_on n d b c leads reads in (suc more.0, (d, d_in, shows, more.1))

  reads_on : (a b c : ℕ) → Reads names bytes a b → Reads names bytes b c → Reads names bytes a c
  reads_on a b c first second = leads_on (first.0) a b c first.1 second

module _ (names : List (List ℕ)) (below : ℕ → ℕ → Bool) (known : AreNames names) (s : IsSubsumption (length names) below) (two : 1 < length names) (bytes : List ℕ)
    (group_line : (r : ℕ) → Contains (representatives names below) r → 1 < length (members names below r) → HasLine bytes (equivalent_line names (members names below r)))
    (parent_line : (r d : ℕ) → Contains (proper names below) r → Contains (parents names below r) d → HasLine bytes (subclass_line names r d)) where
  in_group : (r a : ℕ) → Contains (representatives names below) r → 1 < length (members names below r) → Contains (members names below r) a
      → Reads names bytes r a × Reads names bytes a r
  in_group r a at many a_at =
      let line = group_line r at many in
      let r_at : Contains (members names below r) r = (0, omega (arith, many), refl) in (
        reads_shown names bytes r a (in_members names below known s r a at a_at).0 (inr (inr (inr (members names below r, line, r_at, a_at)))),
        reads_shown names bytes a r (in_representatives names below r at).0 (inr (inr (inr (members names below r, line, a_at, r_at)))),
      )

  pub reads_so : (a b : ℕ) → a < length names → b < length names → below a b ≡ true → Reads names bytes a b
  reads_so = connected names below known s two (Reads names bytes) (λ a. reads_same names bytes a a refl) (reads_on names bytes)
      (λ d d_in. reads_shown names bytes 1 d d_in (inl refl)) in_group
      (λ r d at parent. reads_shown names bytes r d (in_parents names below known s r d parent).0 (inr (inr (inl (parent_line r d at parent)))))
