-- Broken lines of map files, from those of what begins with a map text and those of what stands after it.
use Rattle.std.proofs.Common.{◌≡◌, ℕ, ◌+◌, ◌-◌, ◌*◌, ◌<◌, refl, get_or, List, [], ◌∷◌, ◌++◌, length, sym, ap, ◌∙◌, subst, ◌⊎◌, inl, inr, arith, append_assoc, length-append}
use Rattle.std.specs.Prelude.{All, codes}
use Rattle.std.proofs.lemmas.Bool.{cases_lt}
use Rattle.std.proofs.lemmas.List.{append-nil, append_cancel_left}
use Rattle.std.proofs.lemmas.List.Elements.{All-head, All-tail}
use Rattle.pm_text.specs.Broken.{newline, lines, first_lines, IsBrokenLine}
use Rattle.pm_text.proofs.LineLemmas.{HasNoNewline-nil, IsWholeLines, no_whole_lines, one_whole_line, first_lines-whole, first_lines-past, first_lines-fewer, begins_with_whole_lines, is_unfinished}
use Rattle.pm_lists.specs.Numbers.{spaced_numbers}
use Rattle.pm_mapfile.specs.MapText.{vertex_line, vertex_lines, map_line}
use Rattle.pm_mapfile.specs.MapFile.{MapLines, IsVertexLine, AreMapLines, lines_text}
use Rattle.pm_mapfile.proofs.NumberLines.{numbers_are_unique}
use Rattle.pm_mapfile.proofs.TailLemmas.{tag_v_no_space, tag_v_some, tag_map_no_space, tag_map_some, two_fit, cut_alike, v_not_end, end_no_newline, vertex_no_newline, first_text, first_line_spelled, first_no_newline, whole_text}

-- a prefix of a file that is valid alone, and with anything after it valid in a wider form
pub record HasPrefix (narrow wide : List ℕ → Type 0) (file : List ℕ) : Type 0 where
  pub prefix : List ℕ
  pub count : ℕ
  pub whole : IsWholeLines count prefix
  pub rest : List ℕ
  pub spelled : file ≡ prefix ++ rest
  pub alone : narrow prefix
  pub any : (other : List ℕ) → wide (prefix ++ other)

-- what breaks the wider form breaks the narrower one at the same line
pub broken_in_narrower : (narrow wide : List ℕ → Type 0) (bytes : List ℕ) (line : ℕ) → ((file : List ℕ) → narrow file → wide file) → ((file : List ℕ) → wide file → HasPrefix narrow wide file)
    → IsBrokenLine wide bytes line → IsBrokenLine narrow bytes line
broken_in_narrower narrow wide bytes line within prefixes b = record {
  broken = λ file valid. b.broken file (within file valid);
  least = λ fewer less.
      let g = b.least fewer less in
      let f = prefixes g.file g.is_valid in
      let same : first_lines fewer bytes ≡ first_lines fewer (f.prefix ++ f.rest) = sym g.same ∙ ap (first_lines fewer) f.spelled in
      elim (cases_lt f.count fewer) [
        | inl past ↦
            let goes_on = begins_with_whole_lines f.count f.prefix f.rest bytes f.whole (first_lines-fewer f.count fewer bytes (f.prefix ++ f.rest) (omega arith) same) in
            absurd (b.broken (f.prefix ++ goes_on.tail) (f.any goes_on.tail) (ap (first_lines line) (sym goes_on.whole)))
        | inr short ↦ record {
          file = f.prefix;
          is_valid = f.alone;
          same = ap (first_lines fewer) (sym (append-nil f.prefix)) ∙ first_lines-whole f.count f.prefix [] f.rest fewer f.whole short ∙ sym same;
        }
      ];
}

-- bytes that go on like whole lines, and end where these end, are these
ends_alike : (count : ℕ) (file bytes : List ℕ) → IsWholeLines count file → first_lines (count + 1) bytes ≡ first_lines (count + 1) file → bytes ≡ file
ends_alike count file bytes whole same =
    let unended : first_lines (count + 1) bytes ≡ first_lines (count + 1) (file ++ []) = same ∙ ap (first_lines (count + 1)) (sym (append-nil file)) in
    let goes_on = begins_with_whole_lines count file [] bytes whole (first_lines-fewer count (count + 1) bytes (file ++ []) (omega arith) unended) in
    let there = first_lines-past count 1 file goes_on.tail whole in
    let here = first_lines-past count 1 file [] whole in
    let pieces : whole.pieces ++ first_lines 1 goes_on.tail ≡ whole.pieces ++ first_lines 1 [] = sym there ∙ ap (first_lines (count + 1)) (sym goes_on.whole) ∙ unended ∙ here in
    let ended : goes_on.tail ≡ [] = is_unfinished [] goes_on.tail HasNoNewline-nil (append_cancel_left whole.pieces (first_lines 1 goes_on.tail) (first_lines 1 []) pieces) in
    goes_on.whole ∙ ap (λ l. file ++ l) ended ∙ append-nil file

-- whole lines, and with more after them a valid file
pub record GoesOnTo (valid : List ℕ → Type 0) (file : List ℕ) : Type 0 where
  pub count : ℕ
  pub whole : IsWholeLines count file
  pub tail : List ℕ
  pub is_valid : valid (file ++ tail)

-- what breaks the wider form breaks the narrower one at the same line, where its files are of the narrower form or go on to that
pub broken_in_longer : (narrow wide : List ℕ → Type 0) (bytes : List ℕ) (line : ℕ) → ((file : List ℕ) → narrow file → wide file)
    → ((file : List ℕ) → wide file → narrow file ⊎ GoesOnTo narrow file) → IsBrokenLine wide bytes line → IsBrokenLine narrow bytes line
broken_in_longer narrow wide bytes line within longer b = record {
  broken = λ file valid. b.broken file (within file valid);
  least = λ fewer less.
      let g = b.least fewer less in
      elim (longer g.file g.is_valid) [
        | inl valid ↦ record { file = g.file; is_valid = valid; same = g.same }
        | inr on ↦
            elim (cases_lt on.count fewer) [
              | inl past ↦
                  let same = ends_alike on.count g.file bytes on.whole (first_lines-fewer (on.count + 1) fewer bytes g.file (omega arith) (sym g.same)) in
                  absurd (b.broken g.file g.is_valid (ap (first_lines line) (sym same)))
              | inr short ↦ record {
                file = g.file ++ on.tail;
                is_valid = on.is_valid;
                same = first_lines-whole on.count g.file on.tail [] fewer on.whole short ∙ ap (first_lines fewer) (append-nil g.file) ∙ g.same;
              }
            ]
      ];
}

-- files that begin with a prefix are told by what follows it: a broken line of that is one of the file
pub broken_past_prefix : (valid past : List ℕ → Type 0) (count line : ℕ) (prefix rest : List ℕ) → IsWholeLines count prefix → ((other : List ℕ) → valid (prefix ++ other) → past other)
    → ((other : List ℕ) → past other → valid (prefix ++ other)) → 0 < line → IsBrokenLine past rest line → IsBrokenLine valid (prefix ++ rest) (count + line)
broken_past_prefix valid past count line prefix rest whole to from positive b = record {
  broken = λ file is_valid same.
      let goes_on = begins_with_whole_lines count prefix rest file whole (first_lines-fewer count (count + line) file (prefix ++ rest) (omega arith) same) in
      let there = first_lines-past count line prefix goes_on.tail whole in
      let here = first_lines-past count line prefix rest whole in
      let pieces : whole.pieces ++ first_lines line goes_on.tail ≡ whole.pieces ++ first_lines line rest = sym there ∙ ap (first_lines (count + line)) (sym goes_on.whole) ∙ same ∙ here in
      b.broken goes_on.tail (to goes_on.tail (subst valid goes_on.whole is_valid)) (append_cancel_left whole.pieces (first_lines line goes_on.tail) (first_lines line rest) pieces);
  least = λ fewer less.
      elim (cases_lt count fewer) [
        | inl past_prefix ↦
            let more = fewer - count in
            let sum : count + more ≡ fewer = omega arith in
            let g = b.least more (omega arith) in
            record {
              file = prefix ++ g.file;
              is_valid = from g.file g.is_valid;
              same = subst (λ n. first_lines n (prefix ++ g.file) ≡ first_lines n (prefix ++ rest)) sum
                  (first_lines-past count more prefix g.file whole ∙ ap (λ l. whole.pieces ++ l) g.same ∙ sym (first_lines-past count more prefix rest whole));
            }
        | inr short ↦
            let g = b.least 0 positive in
            record {
              file = prefix ++ g.file;
              is_valid = from g.file g.is_valid;
              same = first_lines-whole count prefix g.file rest fewer whole short;
            }
      ];
}

-- whole lines one after another
whole_append : (n m : ℕ) (a b : List ℕ) → IsWholeLines n a → IsWholeLines m b → IsWholeLines (n + m) (a ++ b)
whole_append n m a b one other = record {
  pieces = one.pieces ++ other.pieces;
  length_pieces = length-append one.pieces other.pieces ∙ (let sum : length one.pieces + length other.pieces ≡ n + m = omega (arith, one.length_pieces, other.length_pieces) in sum);
  in_prefix = λ rest. ap lines (append_assoc a b rest) ∙ one.in_prefix (b ++ rest) ∙ ap (λ l. one.pieces ++ l) (other.in_prefix rest) ∙ sym (append_assoc one.pieces other.pieces (lines rest));
}

whole_vertices : (darts : ℕ) (vertices : List (List ℕ)) → All (IsVertexLine darts) vertices → IsWholeLines (length vertices) (vertex_lines vertices)
whole_vertices darts [] each = no_whole_lines
whole_vertices darts (v ∷ vertices) each =
    let is = All-head (IsVertexLine darts) v vertices each in
    let one = one_whole_line (codes "v" ++ spaced_numbers v) (vertex_no_newline v is.fit) in
    let all = whole_append 1 (length vertices) (vertex_line v) (vertex_lines vertices) one (whole_vertices darts vertices (All-tail (IsVertexLine darts) v vertices each)) in
    subst (λ n. IsWholeLines n (vertex_lines (v ∷ vertices))) (let count : 1 + length vertices ≡ length (v ∷ vertices) = omega arith in count) all

-- a map text is whole lines
pub whole_map_text : (m : MapLines) → AreMapLines m → IsWholeLines (length m.vertices + 2) (lines_text m)
whole_map_text m are =
    let first = subst (IsWholeLines 1) (sym (first_line_spelled m.edges m.root)) (one_whole_line (first_text m.edges m.root) (first_no_newline m.edges m.root are.first)) in
    let vertices = whole_vertices (2 * m.edges) m.vertices are.each in
    let last = one_whole_line (codes "end") end_no_newline in
    let prefix = whole_append 1 (length m.vertices) (map_line m.edges m.root) (vertex_lines m.vertices) first vertices in
    let all = whole_append (1 + length m.vertices) 1 (map_line m.edges m.root ++ vertex_lines m.vertices) (codes "end\n") prefix last in
    subst (λ n. IsWholeLines n (lines_text m)) (let count : 1 + length m.vertices + 1 ≡ length m.vertices + 2 = omega arith in count) all

-- lines of vertices that are the same bytes are the same, and so is what stands after the line `end`
pub record AreVerticesAlike (vs ws : List (List ℕ)) (a b : List ℕ) : Type 0 where
  pub vertices : vs ≡ ws
  pub rest : a ≡ b

vertices_alike : (darts more : ℕ) (vs ws : List (List ℕ)) (a b : List ℕ) → All (IsVertexLine darts) vs → All (IsVertexLine more) ws
    → vertex_lines vs ++ (codes "end" ++ newline ∷ a) ≡ vertex_lines ws ++ (codes "end" ++ newline ∷ b) → AreVerticesAlike vs ws a b
vertices_alike darts more [] [] a b f g e = let alike = cut_alike (codes "end") (codes "end") a b end_no_newline end_no_newline e in record { vertices = refl; rest = alike.rest }
vertices_alike darts more [] (w ∷ ws) a b f g e =
    let is = All-head (IsVertexLine more) w ws g in
    let tail = vertex_lines ws ++ (codes "end" ++ newline ∷ b) in
    let grouped = append_assoc (vertex_line w) (vertex_lines ws) (codes "end" ++ newline ∷ b) ∙ append_assoc (codes "v" ++ spaced_numbers w) (newline ∷ []) tail in
    let alike = cut_alike (codes "end") (codes "v" ++ spaced_numbers w) a tail end_no_newline (vertex_no_newline w is.fit) (e ∙ grouped) in
    absurd (v_not_end (spaced_numbers w) (sym alike.line))
vertices_alike darts more (v ∷ vs) [] a b f g e =
    let is = All-head (IsVertexLine darts) v vs f in
    let tail = vertex_lines vs ++ (codes "end" ++ newline ∷ a) in
    let grouped = append_assoc (vertex_line v) (vertex_lines vs) (codes "end" ++ newline ∷ a) ∙ append_assoc (codes "v" ++ spaced_numbers v) (newline ∷ []) tail in
    let alike = cut_alike (codes "v" ++ spaced_numbers v) (codes "end") tail b (vertex_no_newline v is.fit) end_no_newline (sym grouped ∙ e) in
    absurd (v_not_end (spaced_numbers v) alike.line)
vertices_alike darts more (v ∷ vs) (w ∷ ws) a b f g e =
    let is = All-head (IsVertexLine darts) v vs f in
    let is_w = All-head (IsVertexLine more) w ws g in
    let tail = vertex_lines vs ++ (codes "end" ++ newline ∷ a) in
    let tail_w = vertex_lines ws ++ (codes "end" ++ newline ∷ b) in
    let grouped = append_assoc (vertex_line v) (vertex_lines vs) (codes "end" ++ newline ∷ a) ∙ append_assoc (codes "v" ++ spaced_numbers v) (newline ∷ []) tail in
    let grouped_w = append_assoc (vertex_line w) (vertex_lines ws) (codes "end" ++ newline ∷ b) ∙ append_assoc (codes "v" ++ spaced_numbers w) (newline ∷ []) tail_w in
    let alike = cut_alike (codes "v" ++ spaced_numbers v) (codes "v" ++ spaced_numbers w) tail tail_w (vertex_no_newline v is.fit) (vertex_no_newline w is_w.fit) (sym grouped ∙ e ∙ grouped_w) in
    let first : v ≡ w = numbers_are_unique (codes "v") (codes "v" ++ spaced_numbers v) v w tag_v_no_space tag_v_some (record { fit = is.fit; spelled = refl }) (record { fit = is_w.fit; spelled = alike.line }) in
    let others = vertices_alike darts more vs ws a b (All-tail (IsVertexLine darts) v vs f) (All-tail (IsVertexLine more) w ws g) alike.rest in
    record { vertices = ap (λ x. x ∷ vs) first ∙ ap (λ xs. w ∷ xs) others.vertices; rest = others.rest }

-- two map texts with something after each that are the same bytes have the same lines, and the same after them
pub record AreTextsAlike (m k : MapLines) (a b : List ℕ) : Type 0 where
  pub lines : m ≡ k
  pub rest : a ≡ b

lines_from_parts : (m k : MapLines) → m.edges ≡ k.edges → m.root ≡ k.root → m.vertices ≡ k.vertices → m ≡ k
lines_from_parts m k edges root vertices =
    let with_edges : ℕ → MapLines = λ x. record { edges = x; root = m.root; vertices = m.vertices } in
    let with_root : ℕ → MapLines = λ x. record { edges = k.edges; root = x; vertices = m.vertices } in
    let with_vertices : List (List ℕ) → MapLines = λ x. record { edges = k.edges; root = k.root; vertices = x } in
    ap with_edges edges ∙ ap with_root root ∙ ap with_vertices vertices

pub texts_alike : (m k : MapLines) (a b : List ℕ) → AreMapLines m → AreMapLines k → lines_text m ++ a ≡ lines_text k ++ b → AreTextsAlike m k a b
texts_alike m k a b one other e =
    let tail = vertex_lines m.vertices ++ (codes "end" ++ newline ∷ a) in
    let tail_k = vertex_lines k.vertices ++ (codes "end" ++ newline ∷ b) in
    let alike = cut_alike (first_text m.edges m.root) (first_text k.edges k.root) tail tail_k (first_no_newline m.edges m.root one.first) (first_no_newline k.edges k.root other.first) (sym (whole_text m a) ∙ e ∙ whole_text k b) in
    let first : m.edges ∷ m.root ∷ [] ≡ k.edges ∷ k.root ∷ [] =
    numbers_are_unique (codes "map") (first_text m.edges m.root) (m.edges ∷ m.root ∷ []) (k.edges ∷ k.root ∷ []) tag_map_no_space tag_map_some
    (record { fit = two_fit m.edges m.root one.first; spelled = refl }) (record { fit = two_fit k.edges k.root other.first; spelled = alike.line }) in
    let others = vertices_alike (2 * m.edges) (2 * k.edges) m.vertices k.vertices a b one.each other.each alike.rest in
    record {
      lines = lines_from_parts m k (ap (λ l. get_or l 0 0) first) (ap (λ l. get_or l 1 0) first) others.vertices;
      rest = others.rest;
    }

-- the same stands after each
pub after_alike : (m k : MapLines) (a b : List ℕ) → AreMapLines m → AreMapLines k → lines_text m ++ a ≡ lines_text k ++ b → a ≡ b
after_alike m k a b one other e = let alike = texts_alike m k a b one other e in alike.rest
