-- The lines of twins and the pairs of a profile, printed one after another.
use Rattle.std.proofs.Common.{◌≡◌, ℕ, zero, suc, ◌+◌, ◌*◌, ◌/◌, ◌<◌, List, [], ◌∷◌, ◌++◌, length, take, get_or, map, refl, sym, ◌∙◌, ap, arith, append_assoc}
use Rattle.std.specs.Prelude.{codes}
use Rattle.std.specs.List.{join_with_byte}
use Rattle.std.proofs.lemmas.List.{append-nil, map-append, take_more}
use Rattle.pm_mapfile.specs.ProfileText.{comma, pair_text, profile_text}
use Rattle.pm_map.specs.Rotation.{RotationSystem, structure_of}
use Rattle.pm_canon.specs.VertexList.{IsVertexList}
use Rattle.pm_mapfile.specs.declared.class_line.ClassLine.{ClassLine}
use Rattle.pm_mapfile.specs.MapText.{vertices_text}
use Rattle.pm_mapfile.specs.ClassText.{class_line}
use Rattle.pm_mapfile.specs.TwinText.{edge_twins, twin_line, twin_lines, text_with_twins, IsTextWithTwins}
use Rattle.pm_mapfile.specs.steps.Printed.{cut}
use Rattle.pm_mapfile.proofs.PrintLemmas.{list_cut}

pub twin_lines-append : (first second : List (ℕ × ℕ)) → twin_lines (first ++ second) ≡ twin_lines first ++ twin_lines second
twin_lines-append [] second = refl
twin_lines-append (t ∷ first) second =
    ap (λ l. twin_line t ++ l) (twin_lines-append first second) ∙ sym (append_assoc (twin_line t) (twin_lines first) (twin_lines second))

-- the line of one more edge
pub one_more_edge : (edges : ℕ) (old text new : List ℕ) → text ≡ old ++ twin_lines (edge_twins edges) → new ≡ text ++ twin_line (2 * edges, 2 * edges + 1)
    → new ≡ old ++ twin_lines (edge_twins (edges + 1))
one_more_edge edges old text new printed added =
    let lines = twin_lines (edge_twins edges) in
    let more : edges + 1 ≡ suc edges = omega arith in
    let next : 2 * edges + 1 ≡ suc (2 * edges) = omega arith in
    added ∙ ap (λ l. l ++ twin_line (2 * edges, 2 * edges + 1)) printed ∙ append_assoc old lines (twin_line (2 * edges, 2 * edges + 1))
    ∙ ap (λ n. old ++ (lines ++ twin_line (2 * edges, n))) next
    ∙ ap (λ l. old ++ (lines ++ l)) (sym (append-nil (twin_line (2 * edges, suc (2 * edges)))))
    ∙ ap (λ l. old ++ l) (sym (twin_lines-append (edge_twins edges) ((2 * edges, suc (2 * edges)) ∷ [])))
    ∙ ap (λ n. old ++ twin_lines (edge_twins n)) (sym more)

-- one more piece, after the byte that joins
join_more : (c : ℕ) (first : List ℕ) (pieces : List (List ℕ)) (last : List ℕ) → join_with_byte c (first ∷ pieces ++ last ∷ []) ≡ join_with_byte c (first ∷ pieces) ++ c ∷ last
join_more c first [] last = refl
join_more c first (next ∷ pieces) last =
    ap (λ l. first ++ c ∷ l) (join_more c next pieces last) ∙ sym (append_assoc first (c ∷ join_with_byte c (next ∷ pieces)) (c ∷ last))

-- the first pair
pub first_pair : (pairs : List (ℕ × ℕ)) (place : ℕ) (old text new : List ℕ) → place < length pairs → (0 < place → ⊥) → text ≡ old ++ profile_text (take place pairs)
    → new ≡ text ++ pair_text (get_or pairs place (0, 0)) → new ≡ old ++ profile_text (take (place + 1) pairs)
first_pair [] place old text new within first printed added = absurd (omega arith)
first_pair (pair ∷ pairs) zero old text new within first printed added = added ∙ ap (λ l. l ++ pair_text pair) (printed ∙ append-nil old)
first_pair (pair ∷ pairs) (suc place) old text new within first printed added = absurd (first (omega arith))

profile_more : (pairs : List (ℕ × ℕ)) (pair : ℕ × ℕ) → 0 < length pairs → profile_text (pairs ++ pair ∷ []) ≡ profile_text pairs ++ comma ∷ pair_text pair
profile_more [] pair some = absurd (omega arith)
profile_more (first ∷ pairs) pair some =
    ap (λ l. join_with_byte comma (pair_text first ∷ l)) (map-append pair_text pairs (pair ∷ [])) ∙ join_more comma (pair_text first) (map pair_text pairs) (pair_text pair)

some_taken : (pairs : List (ℕ × ℕ)) (place : ℕ) → place < length pairs → 0 < place → 0 < length (take place pairs)
some_taken [] place within some = absurd (omega arith)
some_taken (pair ∷ pairs) zero within some = absurd (omega arith)
some_taken (pair ∷ pairs) (suc place) within some = omega arith

-- a further pair, after a comma
pub one_more_pair : (pairs : List (ℕ × ℕ)) (place : ℕ) (old text with_comma new : List ℕ) → place < length pairs → 0 < place → text ≡ old ++ profile_text (take place pairs)
    → with_comma ≡ text ++ comma ∷ [] → new ≡ with_comma ++ pair_text (get_or pairs place (0, 0)) → new ≡ old ++ profile_text (take (place + 1) pairs)
one_more_pair pairs place old text with_comma new within some printed comma_added added =
    let pair = get_or pairs place (0, 0) in
    let before = profile_text (take place pairs) in
    added ∙ ap (λ l. l ++ pair_text pair) comma_added ∙ append_assoc text (comma ∷ []) (pair_text pair) ∙ ap (λ l. l ++ comma ∷ pair_text pair) printed
    ∙ append_assoc old before (comma ∷ pair_text pair)
    ∙ ap (λ l. old ++ l) (sym (profile_more (take place pairs) pair (some_taken pairs place within some)))
    ∙ ap (λ l. old ++ profile_text l) (sym (take_more pairs place (0, 0) within))

-- the parts of a text of version 2, one after another
pub parts_of_text : (class : ClassLine) (edges root : ℕ) (vertices : List (List ℕ)) (none head classed body twins text : List ℕ) → none ≡ [] → head ≡ none ++ codes "planarmap 2\n"
    → classed ≡ head ++ class_line class → body ≡ classed ++ vertices_text edges root vertices → twins ≡ body ++ twin_lines (edge_twins edges) → text ≡ twins ++ codes "end\n"
    → text ≡ text_with_twins class edges root vertices (edge_twins edges)
parts_of_text class edges root vertices none head classed body twins text a b c d e f =
    let end_ : List ℕ = codes "end\n" in
    let lines = twin_lines (edge_twins edges) in
    let met = vertices_text edges root vertices in
    f ∙ ap (λ l. l ++ end_) (e ∙ ap (λ l. l ++ lines) (d ∙ ap (λ l. l ++ met) (c ∙ ap (λ l. l ++ class_line class) (b ∙ ap (λ l. l ++ codes "planarmap 2\n") a))))

pub list_text_with_twins : (m : RotationSystem) (class : ClassLine) (edges root : ℕ) (darts sizes text : List ℕ) → IsVertexList (structure_of m) darts sizes → edges ≡ length m.sigma / 2 → root ≡ m.root
    → text ≡ text_with_twins class edges root (cut sizes darts) (edge_twins edges) → IsTextWithTwins m class text
list_text_with_twins m class edges root darts sizes text list is_edges is_root printed = record {
  vertices = list.vertices;
  is_list = list.is_list;
  is_text = printed ∙ ap (λ n. text_with_twins class n root (cut sizes darts) (edge_twins n)) is_edges
      ∙ ap (λ n. text_with_twins class (length m.sigma / 2) n (cut sizes darts) (edge_twins (length m.sigma / 2))) is_root
      ∙ ap (λ l. text_with_twins class (length m.sigma / 2) m.root l (edge_twins (length m.sigma / 2))) (list_cut m darts sizes list);
}
