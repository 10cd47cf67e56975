-- The line of a vertex, read dart by dart.
use Rattle.std.proofs.Common.{◌≡◌, ◌≢◌, ℕ, ◌+◌, ◌<◌, ◌≤◌, List, [], ◌∷◌, ◌++◌, length, take, drop, get_or, refl, sym, ap, ◌∙◌, subst, inl, inr, arith, append_assoc, length-append}
use Rattle.std.specs.Prelude.{All, codes, decimal}
use Rattle.std.proofs.lemmas.Bool.{cases_lt}
use Rattle.std.proofs.lemmas.List.{append-nil, take_more, length-take-le, length-drop, drop_at, length_push, nil_from_length}
use Rattle.std.proofs.lemmas.List.Elements.{All-nil, All-head, All-push, All-drop}
use Rattle.pm_text.specs.Numeral.{IsLeadingNumber}
use Rattle.pm_text.proofs.LeadingLemmas.{leading_is_unique}
use Rattle.pm_lists.specs.Numbers.{spaced_numbers}
use Rattle.pm_lists.specs.steps.Numbers.{EndsNumbers, IsLonger, IsReadingNumbers}
use Rattle.pm_lists.proofs.NumberLemmas as numbers
use Rattle.pm_lists.proofs.NumberLemmas.{IsNextNumber, at_prefix, last_number, next_number}
use Rattle.pm_mapfile.specs.MapText.{vertex_line}
use Rattle.pm_mapfile.specs.MapFile.{IsVertexLine}
use Rattle.pm_mapfile.specs.steps.Lines.{HasNoVertex, IsReadingDarts, ReadsDarts}

-- a line and what follows it
line_and_more : (vertex more : List ℕ) → vertex_line vertex ++ more ≡ codes "v" ++ (spaced_numbers vertex ++ 10 ∷ more)
line_and_more vertex more = append_assoc (codes "v" ++ spaced_numbers vertex) (10 ∷ []) more ∙ append_assoc (codes "v") (spaced_numbers vertex) (10 ∷ more)

-- the newline ends the darts
newline_ends : (more : List ℕ) → EndsNumbers (10 ∷ more)
newline_ends more = record { no_digit = λ h. omega (arith, h.digit); no_space = λ _ e. omega (arith, e) }

-- the bytes begin with the tag
pub reading_begins : (darts : ℕ) (bytes old : List ℕ) → 0 < length bytes → get_or bytes 0 0 ≡ 118 → IsReadingDarts darts bytes 1 old old
reading_begins darts [] old some tag = absurd (omega arith)
reading_begins darts (byte ∷ bytes) old some tag = record {
  vertex = [];
  reading = numbers.reading_begins (codes "v") (byte ∷ bytes) (omega arith) (ap (λ b. b ∷ []) tag);
  below = All-nil (λ dart. dart < darts);
  appended = sym (append-nil old);
  room = λ none. absurd (omega arith);
}

pub no_tag : (darts : ℕ) (bytes old : List ℕ) → (0 < length bytes → get_or bytes 0 0 ≢ 118) → HasNoVertex darts bytes old
no_tag darts bytes old other vertex more is room e =
    let all : bytes ≡ 118 ∷ (spaced_numbers vertex ++ 10 ∷ more) = e ∙ line_and_more vertex more in
    other (omega (arith, ap length all)) (ap (λ l. get_or l 0 0) all)

-- the dart after a space, where the line is that of a vertex
next_dart : (darts : ℕ) (bytes : List ℕ) (place : ℕ) (old new vertex more : List ℕ) → (r : IsReadingDarts darts bytes place old new) → place < length bytes → get_or bytes place 0 ≡ 32
    → IsVertexLine darts vertex → bytes ≡ vertex_line vertex ++ more → IsNextNumber r.vertex vertex (drop (place + 1) bytes) (10 ∷ more)
next_dart darts bytes place old new vertex more r h space is e =
    next_number (codes "v") bytes place r.vertex vertex (10 ∷ more) r.reading h space is.fit (newline_ends more) (e ∙ line_and_more vertex more)

-- one dart more
pub reading_more : (darts : ℕ) (bytes : List ℕ) (place : ℕ) (old new : List ℕ) (dart count : ℕ) → IsReadingDarts darts bytes place old new → place < length bytes → get_or bytes place 0 ≡ 32
    → IsLeadingNumber (drop (place + 1) bytes) dart count → dart < darts → length new < darts → IsReadingDarts darts bytes (place + (1 + count)) old (new ++ dart ∷ [])
reading_more darts bytes place old new dart count r h space leads low room = record {
  vertex = r.vertex ++ dart ∷ [];
  reading = numbers.reading_more (codes "v") bytes place r.vertex dart count r.reading h space leads;
  below = All-push (λ d. d < darts) r.vertex dart r.below low;
  appended = ap (λ l. l ++ dart ∷ []) r.appended ∙ append_assoc old r.vertex (dart ∷ []);
  room = λ _. omega (arith, room, length_push new dart);
}

-- after a space stands no number
pub no_number : (darts : ℕ) (bytes : List ℕ) (place : ℕ) (old new : List ℕ) → IsReadingDarts darts bytes place old new → place < length bytes → get_or bytes place 0 ≡ 32
    → ((value count : ℕ) → IsLeadingNumber (drop (place + 1) bytes) value count → ⊥) → HasNoVertex darts bytes old
no_number darts bytes place old new r h space none vertex more is room e =
    let n = next_dart darts bytes place old new vertex more r h space is e in none n.number (length (decimal n.number)) n.leads

-- the number is no dart
pub not_below : (darts : ℕ) (bytes : List ℕ) (place : ℕ) (old new : List ℕ) (dart count : ℕ) → IsReadingDarts darts bytes place old new → place < length bytes → get_or bytes place 0 ≡ 32
    → IsLeadingNumber (drop (place + 1) bytes) dart count → darts ≤ dart → HasNoVertex darts bytes old
not_below darts bytes place old new dart count r h space leads high vertex more is room e =
    let n = next_dart darts bytes place old new vertex more r h space is e in
    let same = leading_is_unique (drop (place + 1) bytes) dart n.number count (length (decimal n.number)) leads n.leads in
    let split : vertex ≡ r.vertex ++ n.number ∷ n.others = n.whole_is ∙ append_assoc r.vertex (n.number ∷ []) n.others in
    let low : n.number < darts =
    All-head (λ d. d < darts) n.number n.others
    (subst (All (λ d. d < darts)) (drop_at r.vertex (n.number ∷ n.others) (length r.vertex) refl)
    (All-drop (λ d. d < darts) (length r.vertex) (r.vertex ++ n.number ∷ n.others) (subst (All (λ d. d < darts)) split is.below))) in
    omega (arith, low, high, same.1)

-- there is no room for a dart more
pub no_room : (darts : ℕ) (bytes : List ℕ) (place : ℕ) (old new : List ℕ) → IsReadingDarts darts bytes place old new → place < length bytes → get_or bytes place 0 ≡ 32
    → darts ≤ length new → HasNoVertex darts bytes old
no_room darts bytes place old new r h space full vertex more is room e =
    let n = next_dart darts bytes place old new vertex more r h space is e in
    omega (arith, room, full, ap length n.whole_is, length-append (r.vertex ++ n.number ∷ []) n.others, length_push r.vertex n.number, ap length r.appended, length-append old r.vertex)

-- a dart takes bytes
words_some : (vertex : List ℕ) → 0 < length vertex → 0 < length (spaced_numbers vertex)
words_some [] some = absurd (omega arith)
words_some (dart ∷ vertex) some = omega arith

-- the line doesn't end there, or it has no dart
pub no_end : (darts : ℕ) (bytes : List ℕ) (place : ℕ) (old new : List ℕ) → IsReadingDarts darts bytes place old new → (place < length bytes → get_or bytes place 0 ≢ 32)
    → (place < length bytes → get_or bytes place 0 ≡ 10 → place ≡ 1) → HasNoVertex darts bytes old
no_end darts bytes place old new r other unended vertex more is room e =
    let reading = r.reading in
    let last = last_number bytes place r.vertex vertex (10 ∷ more) (reading.onward vertex (10 ∷ more) is.fit (newline_ends more) (e ∙ line_and_more vertex more)) other in
    let within : place < length bytes = omega (arith, ap length last.rest_is, length-drop place bytes) in
    let one = unended within (at_prefix bytes place 10 more last.rest_is) in
    omega (arith, one, length-take-le place bytes reading.within, ap length reading.prefix, words_some r.vertex (omega (arith, is.some, ap length last.whole_is)))

-- the line ends
pub reading_ends : (darts : ℕ) (bytes : List ℕ) (place : ℕ) (old new : List ℕ) → IsReadingDarts darts bytes place old new → place < length bytes → get_or bytes place 0 ≡ 10 → place ≢ 1
    → ReadsDarts darts bytes (place + 1) old new
reading_ends darts bytes place old new r h ended some = record {
  vertex = r.vertex;
  is_vertex = record { some = has_dart; below = r.below; fit = reading.fit };
  within = omega arith;
  line = take_more bytes place 0 h ∙ ap (λ b. take place bytes ++ b ∷ []) ended ∙ ap (λ l. l ++ 10 ∷ []) reading.prefix;
  appended = r.appended;
  room = r.room has_dart;
} where
  reading : IsReadingNumbers (codes "v") bytes place r.vertex
  reading = r.reading

  has_dart : 0 < length r.vertex
  has_dart = elim (cases_lt 0 (length r.vertex)) [
    | inl is ↦ is
    | inr none ↦ absurd (some (let long = length-take-le place bytes reading.within in
        let prefix = ap length (reading.prefix ∙ ap (λ l. codes "v" ++ spaced_numbers l) (nil_from_length r.vertex (omega (arith, none)))) in omega (arith, long, prefix)))
  ]

-- what was appended is something more
pub reading_longer : (darts : ℕ) (bytes : List ℕ) (place : ℕ) (old new : List ℕ) → IsReadingDarts darts bytes place old new → IsLonger old new
reading_longer darts bytes place old new r = record { more = r.vertex; appended = r.appended }
