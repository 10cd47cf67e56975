-- The lines of vertices, printed one after another.
use Rattle.std.proofs.Common.{◌≡◌, ℕ, ◌+◌, ◌-◌, ◌/◌, ◌<◌, ◌≤◌, List, [], ◌∷◌, ◌++◌, ◌^◌, ◌*◌, length, take, drop, map, get_or, refl, sym, ◌∙◌, ap, arith, append_assoc, length-append}
use Rattle.std.specs.Prelude.{codes, sum, Result, Ok, Err, IfOk, Vec}
use Rattle.std.specs.declared.alloc.Global.{Global}
use Rattle.std.proofs.lemmas.List.{append-nil, drop_more, drop-drop, drop_all, take_at, drop_at}
use Rattle.std.proofs.lemmas.List.Sums.{sum_by-append}
use Rattle.pm_lists.proofs.NumberLemmas.{Fits64, words_few}
use Rattle.std.proofs.lemmas.List.Elements.{All-from_get_or}
use Rattle.pm_map.specs.Rotation.{RotationSystem, structure_of}
use Rattle.pm_map.specs.Meeting.{darts_of}
use Rattle.pm_canon.specs.VertexList.{IsVertexList, IsCanonicalList}
use Rattle.pm_lists.specs.Numbers.{spaced_numbers}
use Rattle.pm_mapfile.specs.MapText.{vertex_line, vertex_lines, map_line, HasCanonicalText, IsMapText}
use Rattle.pm_mapfile.specs.steps.Printed.{cut}

pub vertex_lines-append : (first second : List (List ℕ)) → vertex_lines (first ++ second) ≡ vertex_lines first ++ vertex_lines second
vertex_lines-append [] second = refl
vertex_lines-append (v ∷ first) second =
    ap (λ l. vertex_line v ++ l) (vertex_lines-append first second) ∙ sym (append_assoc (vertex_line v) (vertex_lines first) (vertex_lines second))

-- so many darts fit into so many bytes
pub darts_fit : (darts bytes : List ℕ) → 11 * length darts ≤ length bytes → ((k : ℕ) → get_or darts k 0 < 2 ^ 32) → length (spaced_numbers darts) ≤ length bytes
darts_fit darts bytes room fits =
    let few = words_few 10 darts (omega arith) (All-from_get_or (λ n. n < 10 ^ 10) darts 0 (λ k _. omega (arith, fits k))) (All-from_get_or Fits64 darts 0 (λ k _. omega (arith, fits k))) in
    omega (arith, room, few)

-- the lists that a list of vertices was made of
pub cut-list : (vertices : List (List ℕ)) → cut (map length vertices) (darts_of vertices) ≡ vertices
cut-list [] = refl
cut-list (v ∷ vertices) =
    ap (λ l. l ∷ cut (map length vertices) (drop (length v) (v ++ darts_of vertices))) (take_at v (darts_of vertices) (length v) refl)
    ∙ ap (λ l. v ∷ cut (map length vertices) l) (drop_at v (darts_of vertices) (length v) refl) ∙ ap (λ l. v ∷ l) (cut-list vertices)

sum_more : (n : ℕ) (ns : List ℕ) → sum (n ∷ ns) ≡ n + sum ns
sum_more n ns = let e : sum (n ∷ ns) ≡ sum (n ∷ []) + sum ns = sum_by-append (λ k. k) (n ∷ []) ns in omega (arith, e)

sum-list : (vertices : List (List ℕ)) → sum (map length vertices) ≡ length (darts_of vertices)
sum-list [] = refl
sum-list (v ∷ vertices) = omega (arith, sum_more (length v) (map length vertices), sum-list vertices, length-append v (darts_of vertices))

-- the lines that are printed, and those to come
pub record IsCutting (sizes darts old text : List ℕ) (count start : ℕ) : Type 0 where
  pub left : start + sum (drop count sizes) ≡ length darts
  pub printed : old ++ vertex_lines (cut sizes darts) ≡ text ++ vertex_lines (cut (drop count sizes) (drop start darts))

pub cutting_begins : (sizes darts old : List ℕ) → sum sizes ≡ length darts → IsCutting sizes darts old old 0 0
cutting_begins sizes darts old total = record { left = omega (arith, total); printed = refl }

pub cutting_fits : (sizes darts old text : List ℕ) (count start : ℕ) → IsCutting sizes darts old text count start → count < length sizes → start + get_or sizes count 0 ≤ length darts
cutting_fits sizes darts old text count start c h =
    omega (arith, c.left, ap sum (drop_more sizes count 0 h), sum_more (get_or sizes count 0) (drop (count + 1) sizes))

pub cutting_more : (sizes darts old text new : List ℕ) (count start : ℕ) → IsCutting sizes darts old text count start → count < length sizes
    → new ≡ text ++ vertex_line (take (start + get_or sizes count 0 - start) (drop start darts)) → IsCutting sizes darts old new (count + 1) (start + get_or sizes count 0)
cutting_more sizes darts old text new count start c h added =
    let size = get_or sizes count 0 in
    let rest = drop (count + 1) sizes in
    let long : start + size - start ≡ size = omega arith in
    let vertex = take size (drop start darts) in
    let later = vertex_lines (cut rest (drop size (drop start darts))) in
    record {
      left = omega (arith, c.left, ap sum (drop_more sizes count 0 h), sum_more size rest);
      printed = c.printed ∙ ap (λ l. text ++ vertex_lines (cut l (drop start darts))) (drop_more sizes count 0 h)
          ∙ sym (append_assoc text (vertex_line vertex) later)
          ∙ ap (λ l. l ++ later) (sym (added ∙ ap (λ n. text ++ vertex_line (take n (drop start darts))) long))
          ∙ ap (λ l. new ++ vertex_lines (cut rest l)) (drop-drop size start darts);
    }

pub cutting_ends : (sizes darts old text : List ℕ) (count start : ℕ) → IsCutting sizes darts old text count start → length sizes ≤ count → text ≡ old ++ vertex_lines (cut sizes darts)
cutting_ends sizes darts old text count start c all =
    sym (append-nil text) ∙ ap (λ l. text ++ vertex_lines (cut l (drop start darts))) (sym (drop_all count sizes all)) ∙ sym c.printed

-- what the printed list has
pub list_total : (m : RotationSystem) (darts sizes : List ℕ) → IsVertexList (structure_of m) darts sizes → sum sizes ≡ length darts
list_total m darts sizes list = ap sum list.sizes_are ∙ sum-list list.vertices ∙ ap length (sym list.darts_are)

pub list_cut : (m : RotationSystem) (darts sizes : List ℕ) → (list : IsVertexList (structure_of m) darts sizes) → cut sizes darts ≡ list.vertices
list_cut m darts sizes list = ap (λ l. cut l darts) list.sizes_are ∙ ap (cut (map length list.vertices)) list.darts_are ∙ cut-list list.vertices

pub list_text : (m : RotationSystem) (edges root : ℕ) (darts sizes text : List ℕ) → IsVertexList (structure_of m) darts sizes → edges ≡ length m.sigma / 2 → root ≡ m.root
    → text ≡ map_line edges root ++ vertex_lines (cut sizes darts) ++ codes "end\n" → IsMapText m text
list_text m edges root darts sizes text list is_edges is_root printed = record {
  vertices = list.vertices;
  is_list = list.is_list;
  is_text = printed ∙ ap (λ n. map_line n root ++ vertex_lines (cut sizes darts) ++ codes "end\n") is_edges
      ∙ ap (λ n. map_line (length m.sigma / 2) n ++ vertex_lines (cut sizes darts) ++ codes "end\n") is_root
      ∙ ap (λ l. map_line (length m.sigma / 2) m.root ++ vertex_lines l ++ codes "end\n") (list_cut m darts sizes list);
}

pub canonical_text : (m : RotationSystem) (edges : ℕ) (darts sizes text : List ℕ) → IsCanonicalList m darts sizes → edges ≡ length m.sigma / 2
    → text ≡ map_line edges 0 ++ vertex_lines (cut sizes darts) ++ codes "end\n" → HasCanonicalText m text
canonical_text m edges darts sizes text list is_edges printed =
    let as_long : length m.sigma ≡ length list.canonical.sigma = list.is_canonical.is_same.1.darts in
    record {
      canonical = list.canonical;
      is_canonical = list.is_canonical;
      is_text = list_text list.canonical edges 0 darts sizes text list.list (is_edges ∙ ap (λ n. n / 2) as_long) (sym list.is_canonical.is_canonical.root) printed;
    }

-- what follows for the text of an `Ok`
pub text_is : {E : Type 0} (r : Result (Vec ℕ Global) E) (P Q : List ℕ → Type 0) → IfOk r (λ text. P text.items) → ((text : List ℕ) → P text → Q text) → IfOk r (λ text. Q text.items)
text_is (Ok text) P Q h follows = follows text.items h
text_is (Err e) P Q h follows = tt
