-- Where the reader of a map text stands: what it has read, and that the next line is broken where it stops.
use Rattle.std.proofs.Common.{◌≡◌, ◌≢◌, ℕ, ◌+◌, ◌-◌, ◌*◌, ◌<◌, ◌≤◌, true, true≢false, List, [], ◌∷◌, ◌++◌, length, map, take, drop, refl, sym, ap, ◌∙◌, subst, arith, append_assoc, length-append, length-drop, length-take-le}
use Rattle.std.specs.Prelude.{All, codes}
use Rattle.std.specs.List.{concat}
use Rattle.std.proofs.lemmas.List.{append-nil, map-append, length-map, length_push, take-append-drop}
use Rattle.std.proofs.Math.Seq.{take-append_seam}
use Rattle.std.proofs.lemmas.List.Elements.{All-nil, All-push}
use Rattle.std.proofs.lemmas.List.Folds.{concat-append}
use Rattle.pm_text.specs.Broken.{newline, HasNoNewline, IsBrokenLine}
use Rattle.pm_text.specs.Reading.{Reading, reading_of, IsNextLine}
use Rattle.pm_text.proofs.LineLemmas.{IsWholeLines, no_whole_lines}
use Rattle.pm_text.proofs.ReadingLemmas.{whole_after_line}
use Rattle.pm_text.proofs.ReaderLemmas.{broken_at_line, broken_at_end}
use Rattle.pm_lists.specs.Numbers.{spaced_numbers}
use Rattle.pm_mapfile.specs.MapText.{vertex_line, vertex_lines, map_line}
use Rattle.pm_mapfile.specs.MapFile.{MapLines, IsFirstLine, IsVertexLine, lines_text, BeginsWithMapText}
use Rattle.pm_mapfile.specs.steps.Lines.{IsNumbersLine, IsReadMap, HasNoVertex, ReadsVertex}
use Rattle.pm_mapfile.proofs.PrintLemmas.{vertex_lines-append}
use Rattle.pm_lists.proofs.NumberLemmas.{Fits64}
use Rattle.pm_mapfile.proofs.NumberLines.{numbers_are_unique}
use Rattle.pm_mapfile.proofs.TailLemmas.{IsTail, IsNextOf, ends, goes_on, next_of_tail, tail_has_newline, some_tail, FollowsLines, past_lines, before_lines, first_of_text, text_of_first, first_text, first_line_spelled, first_no_newline, vertex_no_newline, two_fit, text_has_newline, v_not_end, tag_map_no_space, tag_map_some}

-- the map without darts begins every text that has no line yet
no_dart_text : BeginsWithMapText (map_line 0 0 ++ (codes "end" ++ newline ∷ []))
no_dart_text =
    text_of_first 0 0 (codes "end" ++ newline ∷ [])
    (record { edges_fit = omega arith; root_fits = omega arith; within = λ some. absurd (omega arith); no_edge = λ _. refl })
    (record { vertices = []; each = All-nil (IsVertexLine 0); count = refl; rest = []; spelled = refl })

-- there is no first line
pub first_missing : (bytes : List ℕ) → HasNoNewline bytes → IsBrokenLine BeginsWithMapText bytes 1
first_missing bytes h =
    broken_at_end BeginsWithMapText 0 bytes (map_line 0 0 ++ (codes "end" ++ newline ∷ [])) (reading_of bytes) refl no_whole_lines no_dart_text h (text_has_newline bytes h)

-- the first line is none
pub first_broken : (after : ℕ) (bytes text : List ℕ) (new : Reading) → IsNextLine (reading_of bytes) new text true after
    → ((edges root : ℕ) → IsFirstLine edges root → IsNumbersLine (codes "map") text (edges ∷ root ∷ []) → ⊥) → IsBrokenLine BeginsWithMapText bytes 1
first_broken after bytes text new next none =
    broken_at_line BeginsWithMapText 0 after bytes (map_line 0 0 ++ (codes "end" ++ newline ∷ [])) text (reading_of bytes) new refl no_whole_lines no_dart_text next
    (λ more b. let f = first_of_text text more next.no_newline b in none f.edges f.root f.first f.line)

-- what was read of a map text: the first line and the lines of some vertices
pub record IsReadSoFar (bytes : List ℕ) (edges root : ℕ) (darts sizes : List ℕ) (reading : Reading) : Type 0 where
  pub vertices : List (List ℕ)
  pub first : IsFirstLine edges root
  pub each : All (IsVertexLine (2 * edges)) vertices
  pub room : length darts ≤ 2 * edges
  pub darts_are : darts ≡ concat vertices
  pub sizes_are : sizes ≡ map length vertices
  pub given : reading.given ≡ map_line edges root ++ vertex_lines vertices
  pub whole : IsWholeLines (length sizes + 1) reading.given
  pub all : bytes ≡ reading.given ++ reading.rest

-- what may follow is a tail for the darts that are still to come
follows : (bytes : List ℕ) (edges root : ℕ) (darts sizes tail : List ℕ) (reading : Reading) → IsReadSoFar bytes edges root darts sizes reading → BeginsWithMapText (reading.given ++ tail)
    → FollowsLines (2 * edges) (2 * edges) (length darts) tail
follows bytes edges root darts sizes tail reading r b =
    let more = vertex_lines r.vertices ++ tail in
    let grouped : reading.given ++ tail ≡ first_text edges root ++ newline ∷ more =
    ap (λ l. l ++ tail) r.given ∙ append_assoc (map_line edges root) (vertex_lines r.vertices) tail
    ∙ ap (λ l. l ++ more) (first_line_spelled edges root) ∙ append_assoc (first_text edges root) (newline ∷ []) more in
    let f = first_of_text (first_text edges root) more (first_no_newline edges root r.first) (subst BeginsWithMapText grouped b) in
    let same : edges ∷ root ∷ [] ≡ f.edges ∷ f.root ∷ [] =
    numbers_are_unique (codes "map") (first_text edges root) (edges ∷ root ∷ []) (f.edges ∷ f.root ∷ []) tag_map_no_space tag_map_some (record { fit = two_fit edges root r.first; spelled = refl }) f.line in
    let same_edges : f.edges ≡ edges = cc in
    let tail_here : IsTail (2 * edges) (2 * edges) more = subst (λ e. IsTail (2 * e) (2 * e) more) same_edges f.follows in
    subst (λ n. FollowsLines (2 * edges) (2 * edges) n tail) (sym (ap length r.darts_are)) (past_lines (2 * edges) (2 * edges) r.vertices tail r.each tail_here)

-- and some tail may
some_file : (bytes : List ℕ) (edges root : ℕ) (darts sizes : List ℕ) (reading : Reading) → IsReadSoFar bytes edges root darts sizes reading → (tail : List ℕ) × BeginsWithMapText (reading.given ++ tail)
some_file bytes edges root darts sizes reading r =
    let need = 2 * edges - length darts in
    let t = some_tail (2 * edges) need (λ some. omega arith) in
    let before = before_lines (2 * edges) need r.vertices t.0 r.each t.1 in
    let total : length (concat r.vertices) + need ≡ 2 * edges = omega (arith, r.room, ap length r.darts_are) in
    let text = text_of_first edges root (vertex_lines r.vertices ++ t.0) r.first (subst (λ n. IsTail (2 * edges) n (vertex_lines r.vertices ++ t.0)) total before) in
    (t.0, subst BeginsWithMapText (sym (append_assoc (map_line edges root) (vertex_lines r.vertices) t.0) ∙ ap (λ l. l ++ t.0) (sym r.given)) text)

-- a line that is read takes nothing away
keeps_all : (after : ℕ) (bytes text : List ℕ) (old new : Reading) → bytes ≡ old.given ++ old.rest → IsNextLine old new text true after → bytes ≡ new.given ++ new.rest
keeps_all after bytes text old new all next =
    all ∙ ap (λ l. old.given ++ l) (next.left ∙ sym (append_assoc text (newline ∷ []) new.rest))
    ∙ sym (append_assoc old.given (text ++ newline ∷ []) new.rest) ∙ ap (λ l. l ++ new.rest) (sym next.now_given)

-- the first line is read
pub read_begins : (after edges root : ℕ) (bytes text : List ℕ) (new : Reading) → IsNextLine (reading_of bytes) new text true after → IsFirstLine edges root
    → IsNumbersLine (codes "map") text (edges ∷ root ∷ []) → IsReadSoFar bytes edges root [] [] new
read_begins after edges root bytes text new next first line = record {
  vertices = [];
  first = first;
  each = All-nil (IsVertexLine (2 * edges));
  room = omega arith;
  darts_are = refl;
  sizes_are = refl;
  given = next.now_given ∙ ap (λ l. l ++ newline ∷ []) line.spelled ∙ sym (first_line_spelled edges root) ∙ sym (append-nil (map_line edges root));
  whole = whole_after_line 0 after (reading_of bytes) new text no_whole_lines next;
  all = keeps_all after bytes text (reading_of bytes) new refl next;
}

-- the line of one more vertex is read
pub read_more : (after edges root : ℕ) (bytes text vertex darts sizes more_darts more_sizes : List ℕ) (old new : Reading) → IsReadSoFar bytes edges root darts sizes old → IsNextLine old new text true after
    → IsNumbersLine (codes "v") text vertex → IsVertexLine (2 * edges) vertex → more_darts ≡ darts ++ vertex → length more_darts ≤ 2 * edges → more_sizes ≡ sizes ++ length vertex ∷ []
    → IsReadSoFar bytes edges root more_darts more_sizes new
read_more after edges root bytes text vertex darts sizes more_darts more_sizes old new r next line is added room sized =
    let one : vertex_lines (vertex ∷ []) ≡ text ++ newline ∷ [] = append-nil (vertex_line vertex) ∙ ap (λ l. l ++ newline ∷ []) (sym line.spelled) in
    let lines : vertex_lines (r.vertices ++ vertex ∷ []) ≡ vertex_lines r.vertices ++ (text ++ newline ∷ []) = vertex_lines-append r.vertices (vertex ∷ []) ∙ ap (λ l. vertex_lines r.vertices ++ l) one in
    let count : length more_sizes ≡ length sizes + 1 = ap length sized ∙ length_push sizes (length vertex) in
    record {
      vertices = r.vertices ++ vertex ∷ [];
      first = r.first;
      each = All-push (IsVertexLine (2 * edges)) r.vertices vertex r.each is;
      room = room;
      darts_are = added ∙ ap (λ l. l ++ vertex) r.darts_are ∙ ap (λ l. concat r.vertices ++ l) (sym (append-nil vertex)) ∙ sym (concat-append r.vertices (vertex ∷ []));
      sizes_are = sized ∙ ap (λ l. l ++ length vertex ∷ []) r.sizes_are ∙ sym (map-append length r.vertices (vertex ∷ []));
      given = next.now_given ∙ ap (λ l. l ++ (text ++ newline ∷ [])) r.given ∙ append_assoc (map_line edges root) (vertex_lines r.vertices) (text ++ newline ∷ [])
          ∙ ap (λ l. map_line edges root ++ l) (sym lines);
      whole = subst (λ n. IsWholeLines (n + 1) new.given) (sym count) (whole_after_line (length sizes + 1) after old new text r.whole next);
      all = keeps_all after bytes text old new r.all next;
    }

-- no line is left that ends
pub next_missing : (edges root : ℕ) (bytes darts sizes : List ℕ) (old : Reading) → IsReadSoFar bytes edges root darts sizes old → HasNoNewline old.rest
    → IsBrokenLine BeginsWithMapText bytes (length sizes + 1 + 1)
next_missing edges root bytes darts sizes old r h =
    let some = some_file bytes edges root darts sizes old r in
    broken_at_end BeginsWithMapText (length sizes + 1) bytes some.0 old r.all r.whole some.1 h
    (λ b. let f = follows bytes edges root darts sizes old.rest old r (subst BeginsWithMapText r.all b) in tail_has_newline (2 * edges) f.after old.rest h f.is_tail)

-- the next line is none that may follow
next_broken : (after edges root : ℕ) (bytes text darts sizes : List ℕ) (old new : Reading) → IsReadSoFar bytes edges root darts sizes old → IsNextLine old new text true after
    → ((need : ℕ) (more : List ℕ) → length darts + need ≡ 2 * edges → IsNextOf (2 * edges) need text more → ⊥) → IsBrokenLine BeginsWithMapText bytes (length sizes + 1 + 1)
next_broken after edges root bytes text darts sizes old new r next none =
    let some = some_file bytes edges root darts sizes old r in
    broken_at_line BeginsWithMapText (length sizes + 1) after bytes some.0 text old new r.all r.whole some.1 next
    (λ more b.
    let f = follows bytes edges root darts sizes (text ++ newline ∷ more) old r b in
    none f.after more f.total (next_of_tail (2 * edges) f.after text more next.no_newline f.is_tail))

-- the line `end` comes where darts are still to come
pub end_broken : (after edges root : ℕ) (bytes text darts sizes : List ℕ) (old new : Reading) → IsReadSoFar bytes edges root darts sizes old → IsNextLine old new text true after
    → text ≡ codes "end" → length darts ≢ 2 * edges → IsBrokenLine BeginsWithMapText bytes (length sizes + 1 + 1)
end_broken after edges root bytes text darts sizes old new r next is few =
    next_broken after edges root bytes text darts sizes old new r next
    (λ need more total n. elim n [
      | ends _ none ↦ few (omega (arith, total, none))
      | goes_on vertex _ line _ _ _ ↦ v_not_end (spaced_numbers vertex) (sym line.spelled ∙ is)
    ])

-- the line is neither `end` nor that of a vertex for which there is room
pub vertex_broken : (after edges root : ℕ) (bytes text darts sizes : List ℕ) (old new : Reading) → IsReadSoFar bytes edges root darts sizes old → IsNextLine old new text true after
    → text ≢ codes "end" → ((vertex : List ℕ) → IsNumbersLine (codes "v") text vertex → IsVertexLine (2 * edges) vertex → length darts + length vertex ≤ 2 * edges → ⊥)
    → IsBrokenLine BeginsWithMapText bytes (length sizes + 1 + 1)
vertex_broken after edges root bytes text darts sizes old new r next other none =
    next_broken after edges root bytes text darts sizes old new r next
    (λ need more total n. elim n [
      | ends is _ ↦ other is
      | goes_on vertex later line is sum _ ↦ none vertex line is (omega (arith, total, sum))
    ])

-- the line `end` comes where all darts were read
pub read_ends : (after edges root : ℕ) (bytes text darts sizes : List ℕ) (old new : Reading) → IsReadSoFar bytes edges root darts sizes old → IsNextLine old new text true after
    → text ≡ codes "end" → length darts ≡ 2 * edges → IsReadMap bytes edges root darts sizes after
read_ends after edges root bytes text darts sizes old new r next is count =
    let m : MapLines = record { edges = edges; root = root; vertices = r.vertices } in
    let now : new.given ≡ lines_text m = next.now_given ∙ ap (λ l. l ++ (text ++ newline ∷ [])) r.given ∙ ap (λ l. (map_line edges root ++ vertex_lines r.vertices) ++ (l ++ newline ∷ [])) is in
    let all = keeps_all after bytes text old new r.all next in
    record {
      vertices = r.vertices;
      are_lines = record { first = r.first; each = r.each; count = ap length (sym r.darts_are) ∙ count };
      darts_are = r.darts_are;
      sizes_are = r.sizes_are;
      within = omega (arith, next.place, ap length all, length-append new.given new.rest);
      prefix = ap (λ n. take n bytes) next.place ∙ ap (take (length new.given)) all ∙ take-append_seam new.given new.rest ∙ now;
    }

-- there are not more lines than bytes
pub vertices_short : (vertices : List (List ℕ)) → length vertices ≤ length (vertex_lines vertices)
vertices_short [] = omega arith
vertices_short (v ∷ vertices) = omega (arith, vertices_short vertices, length-append (vertex_line v) (vertex_lines vertices))

pub lines_fit : (edges root : ℕ) (bytes darts sizes : List ℕ) (reading : Reading) → IsReadSoFar bytes edges root darts sizes reading → length sizes + 2 ≤ length bytes
lines_fit edges root bytes darts sizes reading r =
    omega (arith, ap length r.all, length-append reading.given reading.rest, ap length r.given, length-append (map_line edges root) (vertex_lines r.vertices), vertices_short r.vertices, ap length r.sizes_are, length-map r.vertices length)

-- the reading after so many bytes more
abbrev pub skipped : Reading → ℕ → Reading
skipped old count = record { given = old.given ++ take count old.rest; rest = drop count old.rest }

-- the line of a vertex at the prefix of what is left is the next line
line_of_vertex : (count : ℕ) (vertex : List ℕ) (old : Reading) → All Fits64 vertex → take count old.rest ≡ vertex_line vertex
    → IsNextLine old (skipped old count) (codes "v" ++ spaced_numbers vertex) true (length (old.given ++ take count old.rest))
line_of_vertex count vertex old fit line = record {
  no_newline = vertex_no_newline vertex fit;
  left = sym (take-append-drop count old.rest) ∙ ap (λ l. l ++ drop count old.rest) line ∙ append_assoc (codes "v" ++ spaced_numbers vertex) (newline ∷ []) (drop count old.rest);
  now_given = ap (λ l. old.given ++ l) line;
  place = refl;
  unfinished = λ e. absurd (true≢false e);
}

pub read_vertex_more : (edges root count : ℕ) (bytes darts sizes more_darts more_sizes : List ℕ) (old : Reading) → IsReadSoFar bytes edges root darts sizes old
    → ReadsVertex (2 * edges) old.rest count darts more_darts sizes more_sizes → IsReadSoFar bytes edges root more_darts more_sizes (skipped old count)
read_vertex_more edges root count bytes darts sizes more_darts more_sizes old r v =
    let read = v.read in
    let next = line_of_vertex count read.vertex old read.is_vertex.fit read.line in
    read_more (length (old.given ++ take count old.rest)) edges root bytes (codes "v" ++ spaced_numbers read.vertex) read.vertex darts sizes more_darts more_sizes old (skipped old count) r next
    (record { fit = read.is_vertex.fit; spelled = refl }) read.is_vertex read.appended read.room v.sized

-- the same darts and sizes
pub read_the_same : (edges root : ℕ) (bytes darts sizes same_darts same_sizes : List ℕ) (reading : Reading) → same_darts ≡ darts → same_sizes ≡ sizes
    → IsReadSoFar bytes edges root darts sizes reading → IsReadSoFar bytes edges root same_darts same_sizes reading
read_the_same edges root bytes darts sizes same_darts same_sizes reading d s r =
    subst (λ l. IsReadSoFar bytes edges root l same_sizes reading) (sym d) (subst (λ l. IsReadSoFar bytes edges root darts l reading) (sym s) r)

-- a line takes bytes
pub vertex_takes : (darts count : ℕ) (bytes old new old_sizes new_sizes : List ℕ) → ReadsVertex darts bytes count old new old_sizes new_sizes → length (drop count bytes) < length bytes
vertex_takes darts count bytes old new old_sizes new_sizes v =
    let read = v.read in
    omega (
      arith,
      read.within,
      length-drop count bytes,
      length-take-le count bytes read.within,
      ap length read.line,
      length-append (codes "v" ++ spaced_numbers read.vertex) (10 ∷ []),
    )

-- the same, where the line is counted by `line`
counted : (bytes : List ℕ) (line other : ℕ) → other ≡ line → IsBrokenLine BeginsWithMapText bytes other → IsBrokenLine BeginsWithMapText bytes line
counted bytes line other e b = subst (IsBrokenLine BeginsWithMapText bytes) e b

pub next_missing_told : (edges root line : ℕ) (bytes darts sizes : List ℕ) (old : Reading) → line ≡ length sizes + 2 → IsReadSoFar bytes edges root darts sizes old → HasNoNewline old.rest
    → IsBrokenLine BeginsWithMapText bytes line
next_missing_told edges root line bytes darts sizes old e r h = counted bytes line (length sizes + 1 + 1) (omega (arith, e)) (next_missing edges root bytes darts sizes old r h)

pub end_broken_told : (after edges root line : ℕ) (bytes text darts sizes : List ℕ) (old new : Reading) → line ≡ length sizes + 2 → IsReadSoFar bytes edges root darts sizes old → IsNextLine old new text true after
    → text ≡ codes "end" → length darts ≢ 2 * edges → IsBrokenLine BeginsWithMapText bytes line
end_broken_told after edges root line bytes text darts sizes old new e r next is few =
    counted bytes line (length sizes + 1 + 1) (omega (arith, e)) (end_broken after edges root bytes text darts sizes old new r next is few)

pub vertex_broken_told : (after edges root line : ℕ) (bytes text darts sizes : List ℕ) (old new : Reading) → line ≡ length sizes + 2 → IsReadSoFar bytes edges root darts sizes old
    → IsNextLine old new text true after → text ≢ codes "end" → HasNoVertex (2 * edges) old.rest darts → IsBrokenLine BeginsWithMapText bytes line
vertex_broken_told after edges root line bytes text darts sizes old new e r next other none =
    counted bytes line (length sizes + 1 + 1) (omega (arith, e))
    (vertex_broken after edges root bytes text darts sizes old new r next other
    (λ vertex spelled is room. none vertex new.rest is room
    (next.left ∙ ap (λ l. l ++ newline ∷ new.rest) spelled.spelled ∙ sym (append_assoc (codes "v" ++ spaced_numbers vertex) (newline ∷ []) new.rest))))
