-- What may follow the lines that were read of a map text, line by line.
use Rattle.std.proofs.Common.{◌≡◌, ◌≢◌, ℕ, zero, suc, ◌+◌, ◌*◌, ◌<◌, List, [], ◌∷◌, ◌++◌, length, refl, sym, ap, ◌∙◌, subst, arith, append_assoc, length-append}
use Rattle.std.specs.Prelude.{All, decimal, codes}
use Rattle.std.specs.List.{concat}
use Rattle.std.proofs.lemmas.List.{append-nil}
use Rattle.std.proofs.lemmas.List.Elements.{All-nil, All-head, All-tail, All-cons, All-append}
use Rattle.std.proofs.lemmas.List.Folds.{concat-append}
use Rattle.pm_text.specs.Broken.{newline, HasNoNewline}
use Rattle.pm_text.specs.Spaced.{HasNoSpace}
use Rattle.pm_text.proofs.LineLemmas.{HasNoNewline-nil, HasNoNewline-cons, HasNoNewline-head, HasNoNewline-tail, HasNoNewline-append}
use Rattle.pm_text.proofs.WordLemmas.{HasNoSpace-nil, HasNoSpace-cons}
use Rattle.pm_lists.specs.Numbers.{spaced_numbers}
use Rattle.pm_mapfile.specs.MapText.{vertex_line, vertex_lines, map_line}
use Rattle.pm_mapfile.specs.MapFile.{MapLines, IsFirstLine, IsVertexLine, lines_text, BeginsWithMapText}
use Rattle.pm_mapfile.specs.steps.Lines.{IsNumbersLine}
use Rattle.pm_mapfile.proofs.PrintLemmas.{vertex_lines-append}
use Rattle.pm_lists.proofs.NumberLemmas.{Fits64}
use Rattle.pm_mapfile.proofs.NumberLines.{numbers_are_unique, spaced_no_newline}

-- two texts that are the same have the same first line
pub record AreCutAlike (a b r s : List ℕ) : Type 0 where
  pub line : a ≡ b
  pub rest : r ≡ s

pub cut_alike : (a b r s : List ℕ) → HasNoNewline a → HasNoNewline b → a ++ newline ∷ r ≡ b ++ newline ∷ s → AreCutAlike a b r s
cut_alike [] [] r s h g e = record { line = refl; rest = cc }
cut_alike [] (y ∷ b) r s h g e = absurd (let first : newline ≡ y = cc in HasNoNewline-head y b g (sym first))
cut_alike (x ∷ a) [] r s h g e = absurd (let first : x ≡ newline = cc in HasNoNewline-head x a h first)
cut_alike (x ∷ a) (y ∷ b) r s h g e =
    let first : x ≡ y = cc in
    let more : a ++ newline ∷ r ≡ b ++ newline ∷ s = cc in
    let alike = cut_alike a b r s (HasNoNewline-tail x a h) (HasNoNewline-tail y b g) more in
    let line : a ≡ b = alike.line in
    record { line = cc; rest = alike.rest }

-- a newline stands in bytes that have one
pub has_newline : (a r : List ℕ) → HasNoNewline (a ++ newline ∷ r) → ⊥
has_newline [] r h = HasNoNewline-head newline r h refl
has_newline (x ∷ a) r h = has_newline a r (HasNoNewline-tail x (a ++ newline ∷ r) h)

-- the tags
pub tag_v_no_space : HasNoSpace (codes "v")
tag_v_no_space = HasNoSpace-cons 118 [] (omega arith) HasNoSpace-nil

pub tag_v_some : codes "v" ≢ []
tag_v_some e = cc

pub tag_map_no_space : HasNoSpace (codes "map")
tag_map_no_space = HasNoSpace-cons 109 (codes "ap") (omega arith) (HasNoSpace-cons 97 (codes "p") (omega arith) (HasNoSpace-cons 112 [] (omega arith) HasNoSpace-nil))

pub tag_map_some : codes "map" ≢ []
tag_map_some e = cc

tag_v_no_newline : HasNoNewline (codes "v")
tag_v_no_newline = HasNoNewline-cons 118 [] (omega arith) HasNoNewline-nil

tag_map_no_newline : HasNoNewline (codes "map")
tag_map_no_newline = HasNoNewline-cons 109 (codes "ap") (omega arith) (HasNoNewline-cons 97 (codes "p") (omega arith) (HasNoNewline-cons 112 [] (omega arith) HasNoNewline-nil))

pub end_no_newline : HasNoNewline (codes "end")
end_no_newline = HasNoNewline-cons 101 (codes "nd") (omega arith) (HasNoNewline-cons 110 (codes "d") (omega arith) (HasNoNewline-cons 100 [] (omega arith) HasNoNewline-nil))

pub vertex_no_newline : (vertex : List ℕ) → All Fits64 vertex → HasNoNewline (codes "v" ++ spaced_numbers vertex)
vertex_no_newline vertex fit = HasNoNewline-append (codes "v") (spaced_numbers vertex) tag_v_no_newline (spaced_no_newline vertex fit)

-- the first line without its newline
abbrev pub first_text : ℕ → ℕ → List ℕ
first_text edges root = codes "map" ++ spaced_numbers (edges ∷ root ∷ [])

pub two_fit : (edges root : ℕ) → IsFirstLine edges root → All Fits64 (edges ∷ root ∷ [])
two_fit edges root f = All-cons Fits64 edges (root ∷ []) f.edges_fit (All-cons Fits64 root [] f.root_fits (All-nil Fits64))

pub first_no_newline : (edges root : ℕ) → IsFirstLine edges root → HasNoNewline (first_text edges root)
first_no_newline edges root f = HasNoNewline-append (codes "map") (spaced_numbers (edges ∷ root ∷ [])) tag_map_no_newline (spaced_no_newline (edges ∷ root ∷ []) (two_fit edges root f))

pub first_line_spelled : (edges root : ℕ) → map_line edges root ≡ first_text edges root ++ newline ∷ []
first_line_spelled edges root =
    ap (λ l. 109 ∷ 97 ∷ 112 ∷ 32 ∷ l) (spaced (decimal edges) (decimal root)) where
      spaced : (e r : List ℕ) → ((e ++ 32 ∷ []) ++ r) ++ 10 ∷ [] ≡ (e ++ 32 ∷ (r ++ [])) ++ 10 ∷ []
      spaced e r = ap (λ l. l ++ 10 ∷ []) (append_assoc e (32 ∷ []) r ∙ ap (λ l. e ++ 32 ∷ l) (sym (append-nil r)))

-- what may follow where so many darts are still to come: lines of vertices with these, the line `end`, and anything
pub record IsTail (darts need : ℕ) (tail : List ℕ) : Type 0 where
  pub vertices : List (List ℕ)
  pub each : All (IsVertexLine darts) vertices
  pub count : length (concat vertices) ≡ need
  pub rest : List ℕ
  pub spelled : tail ≡ vertex_lines vertices ++ (codes "end" ++ newline ∷ rest)

-- what a line may be, and what may follow it
pub data IsNextOf (darts need : ℕ) (text more : List ℕ) : Type 0 where
  ends : text ≡ codes "end" → need ≡ 0 → IsNextOf darts need text more
  goes_on : (vertex : List ℕ) (after : ℕ) → IsNumbersLine (codes "v") text vertex → IsVertexLine darts vertex → length vertex + after ≡ need → IsTail darts after more → IsNextOf darts need text more

next_of : (darts need : ℕ) (text more : List ℕ) (vertices : List (List ℕ)) (rest : List ℕ) → HasNoNewline text → All (IsVertexLine darts) vertices → length (concat vertices) ≡ need
    → text ++ newline ∷ more ≡ vertex_lines vertices ++ (codes "end" ++ newline ∷ rest) → IsNextOf darts need text more
next_of darts need text more [] rest h each count e =
    let alike = cut_alike text (codes "end") more rest h end_no_newline e in ends alike.line (sym count)
next_of darts need text more (v ∷ vertices) rest h each count e =
    let is = All-head (IsVertexLine darts) v vertices each in
    let others = All-tail (IsVertexLine darts) v vertices each in
    let tail = vertex_lines vertices ++ (codes "end" ++ newline ∷ rest) in
    let grouped : text ++ newline ∷ more ≡ (codes "v" ++ spaced_numbers v) ++ newline ∷ tail =
    e ∙ append_assoc (vertex_line v) (vertex_lines vertices) (codes "end" ++ newline ∷ rest) ∙ append_assoc (codes "v" ++ spaced_numbers v) (newline ∷ []) tail in
    let alike = cut_alike text (codes "v" ++ spaced_numbers v) more tail h (vertex_no_newline v is.fit) grouped in
    goes_on v (length (concat vertices)) (record { fit = is.fit; spelled = alike.line }) is (sym (length-append v (concat vertices)) ∙ count)
    (record { vertices = vertices; each = others; count = refl; rest = rest; spelled = alike.rest })

-- one line of what may follow
pub next_of_tail : (darts need : ℕ) (text more : List ℕ) → HasNoNewline text → IsTail darts need (text ++ newline ∷ more) → IsNextOf darts need text more
next_of_tail darts need text more h t = next_of darts need text more t.vertices t.rest h t.each t.count t.spelled

-- what follows has a line that ends
pub tail_has_newline : (darts need : ℕ) (tail : List ℕ) → HasNoNewline tail → IsTail darts need tail → ⊥
tail_has_newline darts need tail h t =
    has_newline (vertex_lines t.vertices ++ codes "end") t.rest
    (subst HasNoNewline (t.spelled ∙ sym (append_assoc (vertex_lines t.vertices) (codes "end") (newline ∷ t.rest))) h)

-- something may always follow, where a dart is still to come only if there is one
vertex_of_first : (darts : ℕ) → 0 < darts → IsVertexLine darts (0 ∷ [])
vertex_of_first darts some = record { some = omega arith; below = All-cons (λ d. d < darts) 0 [] some (All-nil (λ d. d < darts)); fit = All-cons Fits64 0 [] (omega arith) (All-nil Fits64) }

-- as many lines of the first dart
filling : ℕ → List (List ℕ)
filling zero = []
filling (suc n) = (0 ∷ []) ∷ filling n

filling-each : (darts n : ℕ) → (0 < n → 0 < darts) → All (IsVertexLine darts) (filling n)
unfolding filling
filling-each darts zero some = All-nil (IsVertexLine darts)
filling-each darts (suc n) some = All-cons (IsVertexLine darts) (0 ∷ []) (filling n) (vertex_of_first darts (some (omega arith))) (filling-each darts n (λ _. some (omega arith)))

filling-count : (n : ℕ) → length (concat (filling n)) ≡ n
unfolding filling
filling-count zero = refl
filling-count (suc n) = let rest = filling-count n in omega arith

pub some_tail : (darts need : ℕ) → (0 < need → 0 < darts) → (tail : List ℕ) × IsTail darts need tail
some_tail darts need some =
    (vertex_lines (filling need) ++ (codes "end" ++ newline ∷ []), record { vertices = filling need; each = filling-each darts need some; count = filling-count need; rest = []; spelled = refl })

other_heads : (one other : List ℕ) (x y : ℕ) → x ≢ y → x ∷ one ≡ y ∷ other → ⊥
other_heads one other x y differ same = differ cc

-- the line of a vertex is not the line `end`
pub v_not_end : (darts : List ℕ) → codes "v" ++ darts ≡ codes "end" → ⊥
v_not_end darts e = other_heads darts (codes "nd") 118 101 (omega arith) e

-- lines of vertices, and then what may follow them
pub record FollowsLines (darts need read : ℕ) (tail : List ℕ) : Type 0 where
  pub after : ℕ
  pub total : read + after ≡ need
  pub is_tail : IsTail darts after tail

pub past_lines : (darts need : ℕ) (vertices : List (List ℕ)) (tail : List ℕ) → All (IsVertexLine darts) vertices → IsTail darts need (vertex_lines vertices ++ tail) → FollowsLines darts need (length (concat vertices)) tail
past_lines darts need [] tail each t = record { after = need; total = omega arith; is_tail = t }
past_lines darts need (v ∷ vertices) tail each t =
    let is = All-head (IsVertexLine darts) v vertices each in
    let others = All-tail (IsVertexLine darts) v vertices each in
    let text = codes "v" ++ spaced_numbers v in
    let more = vertex_lines vertices ++ tail in
    let grouped : vertex_lines (v ∷ vertices) ++ tail ≡ text ++ newline ∷ more =
    append_assoc (vertex_line v) (vertex_lines vertices) tail ∙ append_assoc text (newline ∷ []) more in
    elim (next_of_tail darts need text more (vertex_no_newline v is.fit) (subst (IsTail darts need) grouped t)) [
      | ends e _ ↦ absurd (v_not_end (spaced_numbers v) e)
      | goes_on w after line _ total later ↦
          let same : v ≡ w = numbers_are_unique (codes "v") text v w tag_v_no_space tag_v_some (record { fit = is.fit; spelled = refl }) line in
          let past = past_lines darts after vertices tail others later in
          record {
            after = past.after;
            total = omega (arith, ap length same, past.total, length-append v (concat vertices));
            is_tail = past.is_tail;
          }
    ]

pub before_lines : (darts after : ℕ) (vertices : List (List ℕ)) (tail : List ℕ) → All (IsVertexLine darts) vertices → IsTail darts after tail → IsTail darts (length (concat vertices) + after) (vertex_lines vertices ++ tail)
before_lines darts after vertices tail each t = record {
  vertices = vertices ++ t.vertices;
  each = All-append (IsVertexLine darts) vertices t.vertices each t.each;
  count = omega (arith, ap length (concat-append vertices t.vertices), length-append (concat vertices) (concat t.vertices), t.count);
  rest = t.rest;
  spelled = ap (λ l. vertex_lines vertices ++ l) t.spelled ∙ sym (append_assoc (vertex_lines vertices) (vertex_lines t.vertices) (codes "end" ++ newline ∷ t.rest))
      ∙ ap (λ l. l ++ (codes "end" ++ newline ∷ t.rest)) (sym (vertex_lines-append vertices t.vertices));
}

-- a text that begins with a map text begins with its first line
pub record BeginsWithFirstLine (text more : List ℕ) : Type 0 where
  pub edges : ℕ
  pub root : ℕ
  pub first : IsFirstLine edges root
  pub line : IsNumbersLine (codes "map") text (edges ∷ root ∷ [])
  pub follows : IsTail (2 * edges) (2 * edges) more

pub whole_text : (m : MapLines) (rest : List ℕ) → lines_text m ++ rest ≡ first_text m.edges m.root ++ newline ∷ (vertex_lines m.vertices ++ (codes "end" ++ newline ∷ rest))
whole_text m rest =
    append_assoc (map_line m.edges m.root ++ vertex_lines m.vertices) (codes "end\n") rest
    ∙ append_assoc (map_line m.edges m.root) (vertex_lines m.vertices) (codes "end" ++ newline ∷ rest)
    ∙ ap (λ l. l ++ (vertex_lines m.vertices ++ (codes "end" ++ newline ∷ rest))) (first_line_spelled m.edges m.root)
    ∙ append_assoc (first_text m.edges m.root) (newline ∷ []) (vertex_lines m.vertices ++ (codes "end" ++ newline ∷ rest))

-- a map text has a newline
pub text_has_newline : (bytes : List ℕ) → HasNoNewline bytes → BeginsWithMapText bytes → ⊥
text_has_newline bytes h b =
    has_newline (first_text b.lines.edges b.lines.root) (vertex_lines b.lines.vertices ++ (codes "end" ++ newline ∷ b.rest))
    (subst HasNoNewline (b.spelled ∙ whole_text b.lines b.rest) h)

pub first_of_text : (text more : List ℕ) → HasNoNewline text → BeginsWithMapText (text ++ newline ∷ more) → BeginsWithFirstLine text more
first_of_text text more h b =
    let m = b.lines in
    let tail = vertex_lines m.vertices ++ (codes "end" ++ newline ∷ b.rest) in
    let first = b.are_lines.first in
    let grouped : text ++ newline ∷ more ≡ first_text m.edges m.root ++ newline ∷ tail = b.spelled ∙ whole_text m b.rest in
    let alike = cut_alike text (first_text m.edges m.root) more tail h (first_no_newline m.edges m.root first) grouped in
    record {
      edges = m.edges;
      root = m.root;
      first = first;
      line = record { fit = two_fit m.edges m.root first; spelled = alike.line };
      follows = record { vertices = m.vertices; each = b.are_lines.each; count = b.are_lines.count; rest = b.rest; spelled = alike.rest };
    }

-- and the other way
pub text_of_first : (edges root : ℕ) (tail : List ℕ) → IsFirstLine edges root → IsTail (2 * edges) (2 * edges) tail → BeginsWithMapText (map_line edges root ++ tail)
text_of_first edges root tail first t = record {
  lines = record { edges = edges; root = root; vertices = t.vertices };
  are_lines = record { first = first; each = t.each; count = t.count };
  rest = t.rest;
  spelled = ap (λ l. map_line edges root ++ l) t.spelled
      ∙ sym (append_assoc (map_line edges root ++ vertex_lines t.vertices) (codes "end\n") t.rest
      ∙ append_assoc (map_line edges root) (vertex_lines t.vertices) (codes "end" ++ newline ∷ t.rest));
}
