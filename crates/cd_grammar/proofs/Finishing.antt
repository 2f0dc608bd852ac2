-- What a text is whose items a parser took all.
use Rattle.std.proofs.Common.{◌≡◌, ◌<◌, ◌^◌, ◌⊎◌, inl, inr, ℕ, List, [], ◌∷◌, ◌++◌, map, length, refl, sym, ap, subst, ◌∙◌, arith}
use Rattle.std.proofs.lemmas.List.{length-map, map-append}
use Rattle.std.specs.Prelude.{Option, Some, None, Ok, Err, All}
use Rattle.std.specs.List.{fold}
use Rattle.cd_base.specs.Iri.{IsIri}
use Rattle.cd_meaning.specs.declared.document.Document.{Document}
use Rattle.cd_meaning.specs.Nodes.{nodes}
use Rattle.cd_lex.specs.declared.token.Token.{Token}
use Rattle.cd_lex.specs.Tokens.{HasItems, Ending, AtEnd, AtBad, kinds, placed}
use Rattle.cd_lex.proofs.CutLaws.{items_unique, items_are_unique}
use Rattle.cd_syntax.specs.declared.item.Item.{Item}
use Rattle.cd_syntax.specs.declared.known.Known.{Known}
use Rattle.cd_grammar.specs.declared.parser.Parser.{Parser}
use Rattle.cd_syntax.specs.declared.refusal.Refusal.{Refusal}
use Rattle.cd_grammar.specs.declared.symbol.Symbol.{Symbol}
use Rattle.cd_grammar.specs.Causes.{stand_after, cause_of, Standing, Going, Stopped}
use Rattle.cd_syntax.specs.Grammar.{IsDocument, IsRead, IsOf, nesting}
use Rattle.cd_syntax.specs.Items.{placed_items, item_at, all_of, last_item, item_of}
use Rattle.cd_syntax.specs.Laws.{KnownIsSound}
use Rattle.cd_grammar.specs.Machine.{step, after, start}
use Rattle.cd_syntax.specs.Bounds.{IsSound}
use Rattle.cd_grammar.specs.Reading.{IsFinished, standing, started}
use Rattle.cd_syntax.specs.Refusal.{refusal_at, IsFaulty, IsUnread}
use Rattle.cd_grammar.specs.Taking.{TakesText}
use Rattle.cd_grammar.proofs.Accepts.{accepts}
use Rattle.cd_syntax.proofs.Cuts.{Found, found_in, all_items}
use Rattle.cd_grammar.proofs.Ends.{ends_empty}
use Rattle.cd_syntax.proofs.FaultsOfTokens.{next_item, whole_to, whole_back, fault_back}
use Rattle.cd_grammar.proofs.Few.{few, few_tokens}
use Rattle.cd_grammar.proofs.First.{faults}
use Rattle.cd_grammar.proofs.Iris.{iris, kinds_of_cut}
use Rattle.cd_syntax.proofs.ItemFault.{IsFault as IsItemFault}
use Rattle.cd_grammar.proofs.OneReading.{one_reading}
use Rattle.cd_grammar.proofs.Numbered.{sound_known}
use Rattle.cd_grammar.proofs.Takes.{takes}
use Rattle.cd_grammar.proofs.Endings.{bad_stops, end_keeps}
use Rattle.cd_grammar.proofs.Runs.{after-append}
use Rattle.cd_grammar.proofs.Standing.{goes_on, never_stopped, stopped_at, StopsAt}

-- ---- where the parser stopped

-- the text has a fault where the parser stopped
pub faulty : (fed : List ℕ) (taken : List Token) (ending : Ending) (refusal : Refusal) → HasItems fed taken ending
    → fold stand_after started (all_of taken ending) ≡ Stopped refusal → IsFaulty fed refusal
faulty fed taken ending refusal has h =
    let s : StopsAt start (all_of taken ending) refusal = stopped_at (all_of taken ending) refusal h in
    let cause = cause_of s.known s.stack s.placed.0 in
    let f : Found fed 0 s.front s.placed = found_in fed taken ending s.front s.placed s.later has s.split in
    let fault : IsItemFault (map item_of (kinds f.pieces)) (next_item f.next) cause =
    subst (λ (item : Item). IsItemFault (map item_of (kinds f.pieces)) item cause) f.item_is
    (subst (λ (front : List Item). IsItemFault front s.placed.0 cause) f.same (faults (map item_at s.front) s.known s.stack s.placed.0 s.behind s.stuck)) in (
      f.pieces,
      f.rest,
      f.next,
      cause,
      record {
        cut = f.cut;
        next_is = f.next_is;
        fault = fault_back (kinds f.pieces) f.next cause fault.0 fault.1 fault.2;
        told = s.refused ∙ ap (refusal_at cause) (f.place ∙ omega arith);
      },
    )

-- the items of a document are taken to the end
read_takes : (fed : List ℕ) (taken : List Token) (ending : Ending) (known : Known) → HasItems fed taken ending → IsDocument fed known
    → after nesting start (map item_at (all_of taken ending)) ≡ Some (known, [])
read_takes fed taken ending known has (pieces, cut, whole) =
    let end = AtEnd (length fed) in
    let tokens = placed 0 pieces in
    let same = items_unique fed tokens taken end ending (pieces, cut, refl, refl) has in
    let items = map item_of (kinds pieces) ++ Item.End ∷ [] in
    ap (λ (e : Ending). after nesting start (map item_at (all_of taken e))) (sym same.1)
    ∙ ap (λ (ts : List Token). after nesting start (map item_at (all_of ts end))) (sym same.0)
    ∙ ap (after nesting start) (all_items pieces tokens end refl)
    ∙ takes items known (whole_to (kinds pieces) known whole)

-- a text where the parser stopped is no document
unread : (fed : List ℕ) (taken : List Token) (ending : Ending) (refusal : Refusal) → HasItems fed taken ending
    → fold stand_after started (all_of taken ending) ≡ Stopped refusal → IsUnread fed
unread fed taken ending refusal has h = λ known is.
    never_stopped (all_of taken ending) (known, []) refusal (read_takes fed taken ending known has is) h

-- ---- where it went on to the end

-- the text ended with its end, and all its items were taken, behind which so much is known
pub record IsAtEnd (known : Known) (fed : List ℕ) : Type 0 where
  pub taken : List Token
  pub has : HasItems fed taken (AtEnd (length fed))
  pub whole : after nesting start (map item_at (all_of taken (AtEnd (length fed)))) ≡ Some (known, [])
  pub wanted : List Symbol
  pub before : after nesting start (map item_at (placed_items taken)) ≡ Some (known, wanted)

last_apart : (taken : List Token) (ending : Ending) → map item_at (all_of taken ending) ≡ map item_at (placed_items taken) ++ (last_item ending).0 ∷ []
last_apart taken ending = map-append item_at (placed_items taken) (last_item ending ∷ [])

at_last : (taken : List Token) (ending : Ending) → after nesting start (map item_at (all_of taken ending))
    ≡ step nesting (after nesting start (map item_at (placed_items taken))) (last_item ending).0
at_last taken ending =
    ap (after nesting start) (last_apart taken ending) ∙ after-append nesting start (map item_at (placed_items taken)) ((last_item ending).0 ∷ [])

pub ends_by : (fed : List ℕ) (taken : List Token) (ending : Ending) (known : Known) (stack : List Symbol) → HasItems fed taken ending
    → after nesting start (map item_at (all_of taken ending)) ≡ Some (known, stack) → IsAtEnd known fed
ends_by fed taken (AtBad place) known stack has h =
    let stuck = sym h ∙ at_last taken (AtBad place) ∙ bad_stops (after nesting start (map item_at (placed_items taken))) in absurd cc
ends_by fed taken (AtEnd n) known stack has h =
    let front = map item_at (placed_items taken) in
    let emptied = ends_empty front known stack (sym (ap (after nesting start) (last_apart taken (AtEnd n))) ∙ h) in
    let kept = end_keeps (after nesting start front) known stack (sym (at_last taken (AtEnd n)) ∙ h) in
    record {
      taken = taken;
      has = (has.0, has.1, has.2, refl);
      whole = at_last taken (AtEnd (length fed)) ∙ sym (at_last taken (AtEnd n)) ∙ h ∙ ap (λ (wanted : List Symbol). Some (known, wanted)) emptied;
      wanted = kept.0;
      before = kept.1;
    }

-- such a text is a document
is_document : (fed : List ℕ) (known : Known) → IsAtEnd known fed → IsDocument fed known
is_document fed known end =
    let (pieces, cut, are, place) = end.has in
    let items = all_items pieces end.taken (AtEnd (length fed)) are in
    (pieces, cut, whole_back (kinds pieces) known (accepts (map item_of (kinds pieces) ++ Item.End ∷ []) known (sym (ap (after nesting start) items) ∙ end.whole)))

-- a document of what is known at the end of a text
pub finished : (fed : List ℕ) (known : Known) (document : Document) → IsAtEnd known fed → IsOf document known → IsFinished fed (Ok document)
finished fed known document end is =
    let front = map item_at (placed_items end.taken) in
    let small = few front known end.wanted end.before in
    let short = few_tokens fed end.taken (AtEnd (length fed)) end.has in
    let e : length front ≡ length end.taken =
    length-map (placed_items end.taken) item_at ∙ length-map end.taken (λ (token : Token). (item_of token.kind, token.place)) in
    let read : IsRead fed document = (known, is_document fed known end, is) in (
      read,
      λ other also. one_reading fed other document also read,
      (omega (arith, ap nodes is.axioms), omega (arith, ap length is.classes), omega (arith, ap length is.roles)),
      subst (λ (classes : List (List ℕ)). All IsIri classes) (sym is.classes)
          (iris end.taken known end.wanted (kinds_of_cut fed end.taken (AtEnd (length fed)) end.has) end.before),
    )

-- ---- by the parser

-- a parser that stopped
pub refused : (parser : Parser) (fed : List ℕ) (refusal : Refusal) → TakesText parser fed → parser.stopped ≡ Some refusal → IsFinished fed (Err refusal)
refused parser fed refusal t h =
    let stopped : fold stand_after started (all_of t.0 t.1) ≡ Stopped refusal = sym t.3 ∙ ap (λ (s : Option Refusal). standing (record parser { stopped = s })) h in
    (faulty fed t.0 t.1 refusal t.2 stopped, unread fed t.0 t.1 refusal t.2 stopped)

-- a parser that did not
pub accepted : (parser : Parser) (fed : List ℕ) → TakesText parser fed → parser.stopped ≡ None → IsAtEnd parser.known fed
accepted parser fed t h =
    let going : fold stand_after started (all_of t.0 t.1) ≡ Going parser.known parser.stack =
    sym t.3 ∙ ap (λ (s : Option Refusal). standing (record parser { stopped = s })) h in
    ends_by fed t.0 t.1 parser.known parser.stack t.2 (goes_on (all_of t.0 t.1) parser.known parser.stack going)

pub sound : (known : Known) (fed : List ℕ) → IsAtEnd known fed → IsSound known
sound known fed end = sound_known (map item_at (all_of end.taken (AtEnd (length fed)))) known [] end.whole

-- ---- what a document makes known

at_end : (bytes : List ℕ) (known : Known) → IsDocument bytes known → IsAtEnd known bytes
at_end bytes known (pieces, cut, whole) =
    let ending = AtEnd (length bytes) in
    let has : HasItems bytes (placed 0 pieces) ending = (pieces, cut, refl, refl) in
    ends_by bytes (placed 0 pieces) ending known [] has (read_takes bytes (placed 0 pieces) ending known has (pieces, cut, whole))

-- it may be that of a document, and its classes have IRIs for names
pub known_is_sound : KnownIsSound
known_is_sound bytes known is =
    let end = at_end bytes known is in
    (sound known bytes end, iris end.taken known end.wanted (kinds_of_cut bytes end.taken (AtEnd (length bytes)) end.has) end.before)

-- ---- every text

-- the document of what is known at the end of a text
pub document_at : (known : Known) (bytes : List ℕ) → length bytes < 2 ^ 31 → IsAtEnd known bytes → (document : Document) × IsRead bytes document × IsOf document known
document_at known bytes short end =
    let is_sound = sound known bytes end in
    let small = few (map item_at (placed_items end.taken)) known end.wanted end.before in
    let tokens = few_tokens bytes end.taken (AtEnd (length bytes)) end.has in
    let e : length (map item_at (placed_items end.taken)) ≡ length end.taken =
    length-map (placed_items end.taken) item_at ∙ length-map end.taken (λ (token : Token). (item_of token.kind, token.place)) in
    let document : Document = record {
      axioms = known.axioms;
      classes = known.classes;
      roles = known.roles;
      numbered = is_sound.numbered;
      few_classes = omega arith;
      few_roles = omega arith;
      reserved = is_sound.reserved;
      distinct_classes = is_sound.distinct_classes;
      distinct_roles = is_sound.distinct_roles;
    } in
    let of : IsOf document known = record { axioms = refl; classes = refl; roles = refl } in
    (document, (finished bytes known document end of).0, of)

-- a text is a document, or has a first fault
pub read_or_faulty : (bytes : List ℕ) → length bytes < 2 ^ 31 → ((document : Document) × IsRead bytes document) ⊎ ((refusal : Refusal) × IsFaulty bytes refusal)
read_or_faulty bytes short =
    let all = items_are_unique.some bytes in
    by_standing all.0 all.1 all.2 (fold stand_after started (all_of all.0 all.1)) refl
  where
    by_standing : (tokens : List Token) (ending : Ending) → HasItems bytes tokens ending → (s : Standing) → fold stand_after started (all_of tokens ending) ≡ s
        → ((document : Document) × IsRead bytes document) ⊎ ((refusal : Refusal) × IsFaulty bytes refusal)
    by_standing tokens ending has (Stopped refusal) e = inr (refusal, faulty bytes tokens ending refusal has e)
    by_standing tokens ending has (Going known stack) e =
        let found = document_at known bytes short (ends_by bytes tokens ending known stack has (goes_on (all_of tokens ending) known stack e)) in
        inl (found.0, found.1)
