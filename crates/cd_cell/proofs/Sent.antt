-- Notes that are sent one by one.
use Rattle.std.proofs.Common.{◌≡◌, ℕ, List, [], ◌∷◌, ◌++◌, map, length, drop, sym, ap, subst, ◌∙◌, append_assoc}
use Rattle.std.proofs.Math.Seq.{drop-append_seam}
use Rattle.std.proofs.lemmas.List.{append-nil, map-append}
use Rattle.cd_actor.specs.Sends.{sent}
use Rattle.cd_base.proofs.Members.{member_left, member_map, map_member}
use Rattle.cd_base.specs.Lists.{OneOf, HasNoRepeats}
use Rattle.cd_context.specs.declared.facts.Note.{Note}
use Rattle.cd_cell.specs.Cells.{place_of}
use Rattle.cd_cell.specs.Sending.{SendsNotes}

-- the note, for the cell of its key
abbrev pub addressed : ℕ → Note → ℕ × Note
addressed cells note = (place_of cells note.key, note)

-- the notes before the rest are sent
pub record IsSending (cells : ℕ) (notes : List Note) (out : List (ℕ × Note)) (rest : List Note) (new_out : List (ℕ × Note)) : Type 0 where
  pub done : List Note
  pub is : notes ≡ done ++ rest
  pub follows : new_out ≡ out ++ map (addressed cells) done

pub sending_goes : (cells : ℕ) (notes rest others : List Note) (out between new_out : List (ℕ × Note)) (p : ℕ) (note : Note) → rest ≡ note ∷ others → p ≡ place_of cells note.key
    → new_out ≡ between ++ (p, note) ∷ [] → IsSending cells notes out rest between → IsSending cells notes out others new_out
sending_goes cells notes rest others out between new_out p note e place put g = record {
  done = g.done ++ note ∷ [];
  is = g.is ∙ ap (λ (l : List Note). g.done ++ l) e ∙ sym (append_assoc g.done (note ∷ []) others);
  follows = put ∙ ap (λ (l : List (ℕ × Note)). l ++ (p, note) ∷ []) g.follows ∙ append_assoc out (map (addressed cells) g.done) ((p, note) ∷ [])
      ∙ ap (λ (q : ℕ). out ++ (map (addressed cells) g.done ++ (q, note) ∷ [])) place ∙ ap (λ (l : List (ℕ × Note)). out ++ l) (sym (map-append (addressed cells) g.done (note ∷ [])));
}

apart_left : {X : Type 0} (xs ys : List X) → HasNoRepeats (xs ++ ys) → HasNoRepeats xs
apart_left [] ys a = tt
apart_left (x ∷ xs) ys a = (λ m. a.0 (member_left x xs ys m), apart_left xs ys a.1)

apart_addressed : (cells : ℕ) (notes : List Note) → HasNoRepeats notes → HasNoRepeats (map (addressed cells) notes)
apart_addressed cells [] a = tt
apart_addressed cells (x ∷ xs) a = (
  λ m. let w = map_member (addressed cells) (addressed cells x) xs m in a.0 (subst (λ (y : Note). OneOf y xs) (sym (ap (λ (p : ℕ × Note). p.1) w.2)) w.1),
  apart_addressed cells xs a.1,
)

-- where the work was done, nothing is left
pub sending_ends : (cells : ℕ) (Done : Type 0) (notes rest : List Note) (out new_out : List (ℕ × Note)) → (Done → rest ≡ []) → IsSending cells notes out rest new_out → SendsNotes cells Done notes out new_out
sending_ends cells Done notes rest out new_out none g =
    let s : sent out new_out ≡ map (addressed cells) g.done = ap (drop (length out)) g.follows ∙ drop-append_seam out (map (addressed cells) g.done) in record {
      follows = g.follows ∙ ap (λ (l : List (ℕ × Note)). out ++ l) (sym s);
      only = λ p note m.
          let w = map_member (addressed cells) (p, note) g.done (subst (λ (l : List (ℕ × Note)). OneOf (p, note) l) s m) in
          let same : note ≡ w.0 = ap (λ (x : ℕ × Note). x.1) w.2 in (
            subst (λ (l : List Note). OneOf note l) (sym g.is) (subst (λ (y : Note). OneOf y (g.done ++ rest)) (sym same) (member_left w.0 g.done rest w.1)),
            ap (λ (x : ℕ × Note). x.0) w.2 ∙ ap (λ (y : Note). place_of cells y.key) (sym same),
          );
      once = λ a. subst HasNoRepeats (sym s) (apart_addressed cells g.done (apart_left g.done rest (subst HasNoRepeats g.is a)));
      every = λ did note m.
          let all : notes ≡ g.done = g.is ∙ ap (λ (l : List Note). g.done ++ l) (none did) ∙ append-nil g.done in
          subst (λ (l : List (ℕ × Note)). OneOf (addressed cells note) l) (sym s) (member_map (addressed cells) note g.done (subst (λ (l : List Note). OneOf note l) all m));
    }
