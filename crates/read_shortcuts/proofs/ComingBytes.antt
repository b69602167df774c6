-- Bytes that come next while a condition is half read, ahead or of the source: they are taken, seen and counted.
use Rattle.std.proofs.Common.{◌≡◌, ℕ, ◌+◌, ◌≤◌, Bool, List, [], ◌∷◌, ◌++◌, length, map, refl, sym, ap, subst, ◌∙◌, arith, append-nil, if◌then◌else◌}
use Rattle.input_source.specs.Tape.{OneByte, Tape, front, items_then}
use Rattle.input_escapes.specs.OpenEscape.{OpenEscape}
use Rattle.input_model.proofs.Counts.{bytes_ahead-bytes}
use Rattle.input_model.specs.Input.{Ahead, ByteAhead, bytes_ahead, lines_taken}
use Rattle.input_model.specs.Shown.{seen_ahead}
use Rattle.input_model.specs.Unread.{Stays}
use Rattle.input_model.specs.declared.looked.Looked.{Looked}
use Rattle.input_model.specs.declared.looked.Looked.TheVariants.{Nothing}
use Rattle.run_model.proofs.ItemsTaken.{FromAhead, FromSource, Origin, ahead_at}
use Rattle.run_model.proofs.PlainRuns.{line_of_byte}
use Rattle.run_model.specs.PageEvents.{PageEvent}
use Rattle.run_model.specs.Reading.Items.{PageInput, PageUnread}
use Rattle.run_model.specs.TurnsToCome.{free_ahead}
use Rattle.roff_scan.proofs.PassingAhead.{bytes_taken-is}
use Rattle.roff_scan.specs.Unread.Calls.{NoNewline, OfSource, OfTexts, PassesFront}
use Rattle.read_shortcuts.specs.Conditions.{OfAhead, OfReady, SeesNext, coming}
use Rattle.read_shortcuts.proofs.RegistersPut.{free_ahead-bytes}

-- bytes of the source come in front of others
coming-more : (bytes more : List ℕ) (gives : Tape → Type 0) (t : Tape) → coming more gives t → coming (bytes ++ more) gives (items_then (map OneByte bytes) t)
coming-more [] more gives t comes = comes
coming-more (b ∷ bytes) more gives t comes = (items_then (map OneByte bytes) t, (coming-more bytes more gives t comes, refl))

-- what holds of each tape with them in front holds where they come
pub coming-all : (bytes : List ℕ) (gives of : Tape → Type 0) → ((t : Tape) → gives t → of (items_then (map OneByte bytes) t)) → (t : Tape) → coming bytes gives t → of t
coming-all [] gives of all t comes = all t comes
coming-all (b ∷ bytes) gives of all t comes = subst of (sym comes.1.1) (coming-all bytes gives (λ u. of (items_then (OneByte b ∷ []) u)) all comes.0 comes.1.0)

-- bytes of a line are taken of the source
pub lines-plain : (bytes : List ℕ) (i : PageInput) → NoNewline bytes → 1 ≤ length bytes → lines_taken bytes i ≡ record i { charge = i.charge + length bytes; line = i.newlines + 1 }
lines-plain [] i plain some = absurd (omega (arith, some))
lines-plain (b ∷ []) i plain some = ap (λ (is : Bool). record i { charge = i.charge + 1; newlines = if is then i.newlines + 1 else i.newlines; line = i.newlines + 1 }) plain.0
lines-plain (b ∷ c ∷ bytes) i plain some =
    let same : i.charge + 1 + length (c ∷ bytes) ≡ i.charge + length (b ∷ c ∷ bytes) = omega arith in
    ap (λ (is : Bool). lines_taken (c ∷ bytes) (record i { charge = i.charge + 1; newlines = if is then i.newlines + 1 else i.newlines; line = i.newlines + 1 })) plain.0
    ∙ lines-plain (c ∷ bytes) (record i { charge = i.charge + 1; line = i.newlines + 1 }) plain.1 (omega arith)
    ∙ ap (λ (n : ℕ). record i { charge = n; line = i.newlines + 1 }) same

-- the bytes of the source that come, where these bytes come next
abbrev pub of_source : Origin → List ℕ → List ℕ
of_source (FromAhead rest) bytes = []
of_source (FromSource tape) bytes = bytes

-- none are left
pub none_left : (from : Origin) → of_source from [] ≡ []
none_left (FromAhead rest) = refl
none_left (FromSource tape) = refl

-- as many are held as aren't ahead any more
abbrev pub newly_held : Origin → List ℕ → ℕ
newly_held (FromAhead rest) bytes = 0
newly_held (FromSource tape) bytes = length bytes

-- the source is asked for no byte that was looked at, and may give some tape
abbrev pub IsOpen : Origin → (Tape → Type 0) → Looked → Type 0
IsOpen (FromAhead rest) gives looked = Unit {0}
IsOpen (FromSource tape) gives looked = (looked ≡ Nothing) × ((t : Tape) × gives t)

-- they come from there
abbrev pub CameFrom : Origin → (Tape → Type 0) → (Tape → Type 0) → List ℕ → Type 0
CameFrom (FromAhead rest) gave gives bytes = Stays gave gives
CameFrom (FromSource tape) gave gives bytes = (t : Tape) → coming bytes gives t → gave t

-- where this is half read and these items stand ahead, behind a byte from there, and so much was taken
abbrev pub at : Origin → PageUnread → List OpenEscape → List (Ahead PageEvent) → ℕ → PageUnread
at from u half items charge = record u {
  input = record u.input { escapes = half; ahead = items; charge = charge; line = line_of_byte from u.input.newlines u.input.line };
}

-- bytes ahead stand in front of the rest
parts : (bytes more : List ℕ) (rest : List (Ahead PageEvent)) → map ByteAhead (bytes ++ more) ++ rest ≡ map ByteAhead bytes ++ (map ByteAhead more ++ rest)
parts [] more rest = refl
parts (b ∷ bytes) more rest = ap (λ (items : List (Ahead PageEvent)). ByteAhead b ∷ items) (parts bytes more rest)

-- bytes that come from there are taken
pub passes-front : (from : Origin) (gave gives : Tape → Type 0) (u : PageUnread) (bytes more : List ℕ) → IsOpen from gives u.looked → NoNewline bytes → 1 ≤ length bytes
    → u.input.ahead ≡ ahead_at from (bytes ++ more) → CameFrom from gave gives (bytes ++ more) → u.input.charge + length bytes ≤ u.limits.bytes
    → PassesFront gave (coming (of_source from more) gives) bytes u (at from u u.input.escapes (ahead_at from more) (u.input.charge + length bytes))
passes-front (FromAhead rest) gave gives u bytes more is_open plain some ahead comes within =
    let in_front : u.input.ahead ≡ map ByteAhead bytes ++ (map ByteAhead more ++ rest) = ahead ∙ parts bytes more rest in
    OfTexts (record {
      behind = map ByteAhead more ++ rest;
      in_front = in_front;
      stays = comes;
      input = ap (λ (i : PageInput). record u { input = i }) (sym (bytes_taken-is bytes (map ByteAhead more ++ rest) u.input in_front));
      within = within;
    })
passes-front (FromSource tape) gave gives u bytes more is_open plain some ahead comes within =
    let given = subst (λ (xs : List ℕ). coming xs gives (items_then (map OneByte more) is_open.1.0)) (append-nil more) (coming-more more [] gives is_open.1.0 is_open.1.1) in
    OfSource (record {
      ahead = ahead;
      looked = is_open.0;
      in_front = λ t came. comes (items_then (map OneByte bytes) t) (coming-more bytes more gives t came);
      some = (items_then (map OneByte more) is_open.1.0, given);
      input =
          ap (λ (items : List (Ahead PageEvent)). record u { input = record u.input { ahead = items; charge = u.input.charge + length bytes; line = u.input.newlines + 1 } }) (sym ahead)
          ∙ ap (λ (i : PageInput). record u { input = i }) (sym (lines-plain bytes u.input plain some));
      within = within;
    })

pub passes-next : (from : Origin) (gives : Tape → Type 0) (u : PageUnread) (half : List OpenEscape) (bytes more : List ℕ) (charge : ℕ) → IsOpen from gives u.looked → NoNewline bytes
    → 1 ≤ length bytes → charge + length bytes ≤ u.limits.bytes
    → PassesFront (coming (of_source from (bytes ++ more)) gives) (coming (of_source from more) gives) bytes (at from u half (ahead_at from (bytes ++ more)) charge)
    (at from u half (ahead_at from more) (charge + length bytes))
passes-next (FromAhead rest) gives u half bytes more charge is_open plain some within =
    passes-front (FromAhead rest) gives gives (at (FromAhead rest) u half (map ByteAhead (bytes ++ more) ++ rest) charge) bytes more is_open plain some refl
    (record { before = λ t may. may; after = λ t may. may }) within
passes-next (FromSource tape) gives u half bytes more charge is_open plain some within =
    passes-front (FromSource tape) (coming (bytes ++ more) gives) gives (at (FromSource tape) u half [] charge) bytes more is_open plain some refl (λ t comes. comes) within

-- a byte that comes next is seen
pub sees-next : (from : Origin) (gives : Tape → Type 0) (u : PageUnread) (b : ℕ) (more : List ℕ) → IsOpen from gives u.looked → seen_ahead u.input.ahead ≡ seen_ahead (ahead_at from (b ∷ more))
    → SeesNext b (coming (of_source from (b ∷ more)) gives) u
sees-next (FromAhead rest) gives u b more is_open sees = OfAhead sees
sees-next (FromSource tape) gives u b more is_open sees = OfReady sees is_open.0 (λ t comes. ap front comes.1.1)

-- bytes that come from there count as long as they stand ahead, and once they are held
pub counts-next : (from : Origin) (bytes more : List ℕ) → (bytes_ahead (ahead_at from more) ≤ bytes_ahead (ahead_at from (bytes ++ more)))
    × (bytes_ahead (ahead_at from more) + length bytes ≡ bytes_ahead (ahead_at from (bytes ++ more)) + newly_held from bytes)
counts-next (FromAhead rest) bytes more =
    let in_front = ap (λ (items : List (Ahead PageEvent)). bytes_ahead items) (parts bytes more rest) in
    let count = bytes_ahead-bytes bytes (map ByteAhead more ++ rest) in
    (omega (arith, in_front, count), omega (arith, in_front, count))
counts-next (FromSource tape) bytes more = (omega arith, omega arith)

pub free-next : (from : Origin) (bytes more : List ℕ) → free_ahead (ahead_at from (bytes ++ more)) ≡ free_ahead (ahead_at from more)
free-next (FromAhead rest) bytes more = ap (λ (items : List (Ahead PageEvent)). free_ahead items) (parts bytes more rest) ∙ free_ahead-bytes bytes (map ByteAhead more ++ rest)
free-next (FromSource tape) bytes more = refl
