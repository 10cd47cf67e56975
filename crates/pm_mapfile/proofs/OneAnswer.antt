-- Bytes and a limit have one answer.
use Rattle.std.proofs.Common.{◌≡◌, ℕ, suc, ◌-◌, ◌≤◌, inl, inr, List, [], ◌∷◌, ◌++◌, Option, Some, None, length, get_or, refl, sym, ap, ◌∙◌, subst, arith, Result, Ok, Err, Contains}
use Rattle.std.specs.Prelude.{All, codes}
use Rattle.std.specs.List.{concat}
use Rattle.std.proofs.lemmas.Bool.{cases_lt}
use Rattle.std.proofs.lemmas.List.{ext_get_or}
use Rattle.std.proofs.lemmas.List.Elements.{All-head, All-tail, Contains-append_cases}
use Rattle.pm_perm.proofs.Contained.{is_at}
use Rattle.pm_text.specs.Broken.{newline}
use Rattle.pm_text.proofs.BrokenLemmas.{valid_has_no_broken_line, broken_line_is_unique}
use Rattle.pm_lists.specs.ListLine.{SpellsList, list_line}
use Rattle.pm_lists.proofs.SpellingLemmas.{line_is_read_again, line_has_no_newline, spells_one_list, tag_parts}
use Rattle.pm_map.specs.declared.rooted_map.RootedMap.{RootedMap}
use Rattle.pm_map.specs.declared.refusal.MapRefusal.{MapRefusal}
use Rattle.pm_map.specs.declared.refusal.MapRefusal.TheVariants.{Memory as MemoryOfMap, TooMany, NotPermutation, NotConnected, Genus}
use Rattle.pm_map.specs.Parts.{IsMapAnswer}
use Rattle.pm_map.proofs.UniqueParts.{one_map_answer, least_missing_is_unique}
use Rattle.pm_mapfile.specs.declared.refusal.FileRefusal.TheVariants.{Memory, Text, Map}
use Rattle.pm_mapfile.specs.MapFile.{MapLines, lines_text, BeginsWithMapText, IsResidue, IsMapFile, IsSampleFile}
use Rattle.pm_mapfile.specs.Vertices.{GoesAround, IsRotationOf}
use Rattle.pm_mapfile.specs.Answers.{HasTooManyEdges, LeavesOut, TellsRotation, IsLinesAnswer, AnswersText, AnswersFile, IsAnswerOfForm, HasOneAnswer, HasOneMapTextAnswer, HasOneMapFileAnswer, HasOneSampleFileAnswer}
use Rattle.pm_mapfile.proofs.TailLemmas.{cut_alike}
use Rattle.pm_mapfile.proofs.FormLemmas.{texts_alike}

-- two rotations that go around the same lines agree on the darts of these
agree_on : (sigma tau v : List ℕ) (d : ℕ) → GoesAround sigma v → GoesAround tau v → Contains v d → get_or sigma d 0 ≡ get_or tau d 0
agree_on sigma tau v d one other s =
    let here : get_or sigma (get_or v s.0 0) 0 ≡ get_or tau (get_or v s.0 0) 0 =
    elim (cases_lt (suc s.0) (length v)) [
      | inl inside ↦ one.goes s.0 inside ∙ sym (other.goes s.0 inside)
      | inr last ↦
          let place : s.0 ≡ length v - 1 = omega (arith, s.1) in
          ap (λ n. get_or sigma (get_or v n 0) 0) place ∙ one.closes ∙ sym other.closes ∙ ap (λ n. get_or tau (get_or v n 0) 0) (sym place)
    ] in
    ap (λ n. get_or sigma n 0) (sym (is_at _ _ s)) ∙ here ∙ ap (λ n. get_or tau n 0) (is_at _ _ s)

agree : (sigma tau : List ℕ) (vertices : List (List ℕ)) (d : ℕ) → All (GoesAround sigma) vertices → All (GoesAround tau) vertices → Contains (concat vertices) d
    → get_or sigma d 0 ≡ get_or tau d 0
agree sigma tau [] d one other s = absurd (omega (arith, s.1))
agree sigma tau (v ∷ vertices) d one other s =
    elim (Contains-append_cases v (concat vertices) d s) [
      | inl here ↦ agree_on sigma tau v d (All-head (GoesAround sigma) v vertices one) (All-head (GoesAround tau) v vertices other) here
      | inr later ↦ agree sigma tau vertices d (All-tail (GoesAround sigma) v vertices one) (All-tail (GoesAround tau) v vertices other) later
    ]

-- lines tell one rotation
one_rotation : (vertices : List (List ℕ)) (sigma tau : List ℕ) → IsRotationOf vertices sigma → IsRotationOf vertices tau → sigma ≡ tau
one_rotation vertices sigma tau one other =
    ext_get_or 0 sigma tau (one.size ∙ sym other.size) (λ d h. agree sigma tau vertices d one.around other.around (one.stand d h))

-- the answers to lines, but for want of memory
data LinesCase (m : MapLines) (limit : ℕ) (answer : Result RootedMap MapRefusal) : Type 0 where
  many : (edges : ℕ) → answer ≡ Err (TooMany edges) → HasTooManyEdges m limit edges → LinesCase m limit answer
  out : (dart : ℕ) → answer ≡ Err (NotPermutation dart) → LeavesOut m limit dart → LinesCase m limit answer
  told : TellsRotation m limit answer → LinesCase m limit answer

lines_case : (m : MapLines) (limit : ℕ) (answer : Result RootedMap MapRefusal) → IsLinesAnswer m limit answer → (answer ≡ Err MemoryOfMap → ⊥) → LinesCase m limit answer
lines_case m limit (Ok found) a memory = told a
lines_case m limit (Err (TooMany edges)) a memory = many edges refl a
lines_case m limit (Err (NotPermutation dart)) a memory = out dart refl a
lines_case m limit (Err (NotConnected dart)) a memory = told a
lines_case m limit (Err (Genus euler)) a memory = told a
lines_case m limit (Err MemoryOfMap) a memory = absurd (memory refl)

many_and_few : (m : MapLines) (limit edges : ℕ) → HasTooManyEdges m limit edges → m.edges ≤ limit → ⊥
many_and_few m limit edges h few = let many = h.many in omega arith

out_and_told : (m : MapLines) (limit dart : ℕ) (answer : Result RootedMap MapRefusal) → LeavesOut m limit dart → TellsRotation m limit answer → ⊥
out_and_told m limit dart answer h t =
    let is = t.is_rotation in
    let missing = h.missing in
    missing.breaks (is.stand dart (omega (arith, missing.within, is.size)))

told_alike : (m : MapLines) (limit : ℕ) (first second : Result RootedMap MapRefusal) → TellsRotation m limit first → TellsRotation m limit second
    → (first ≡ Err MemoryOfMap → ⊥) → (second ≡ Err MemoryOfMap → ⊥) → first ≡ second
told_alike m limit first second one other n k =
    let same : one.sigma ≡ other.sigma = one_rotation m.vertices one.sigma other.sigma one.is_rotation other.is_rotation in
    one_map_answer other.sigma m.root first second (subst (λ s. IsMapAnswer s m.root first) same one.answered) other.answered n k

-- lines have one answer
lines_alike : (m : MapLines) (limit : ℕ) (first second : Result RootedMap MapRefusal) → IsLinesAnswer m limit first → IsLinesAnswer m limit second
    → (first ≡ Err MemoryOfMap → ⊥) → (second ≡ Err MemoryOfMap → ⊥) → first ≡ second
lines_alike m limit first second a b n k =
    elim (lines_case m limit first a n) [
      | many edges is h ↦ elim (lines_case m limit second b k) [
        | many others is_b g ↦ is ∙ ap (λ (e : ℕ). Err (TooMany e)) (h.counted ∙ sym g.counted) ∙ sym is_b
        | out dart is_b g ↦ absurd (many_and_few m limit edges h g.few)
        | told t ↦ absurd (many_and_few m limit edges h t.few)
      ]
      | out dart is h ↦ elim (lines_case m limit second b k) [
        | many others is_b g ↦ absurd (many_and_few m limit others g h.few)
        | out other is_b g ↦ is ∙ ap (λ (d : ℕ). Err (NotPermutation d)) (least_missing_is_unique (concat m.vertices) dart other h.missing g.missing) ∙ sym is_b
        | told t ↦ absurd (out_and_told m limit dart second h t)
      ]
      | told t ↦ elim (lines_case m limit second b k) [
        | many others is_b g ↦ absurd (many_and_few m limit others g t.few)
        | out other is_b g ↦ absurd (out_and_told m limit other first g t)
        | told s ↦ told_alike m limit first second t s n k
      ]
    ]

-- what is read twice of the same bytes is one, and so is the answer to the lines
record AreAlike {Read : Type 0} (one other : Read) (first second : Result RootedMap MapRefusal) : Type 0 where
  read : one ≡ other
  same : first ≡ second

-- bytes of which something is read have the form, and it is read once
record AreReadOnce {Read : Type 0} (form : List ℕ → Type 0) (reads : Read → Result RootedMap MapRefusal → Type 0) (bytes : List ℕ) : Type 0 where
  formed : (read : Read) (answer : Result RootedMap MapRefusal) → reads read answer → form bytes
  once : (read other : Read) (first second : Result RootedMap MapRefusal) → reads read first → reads other second
      → (first ≡ Err MemoryOfMap → ⊥) → (second ≡ Err MemoryOfMap → ⊥) → AreAlike read other first second

-- a map isn't want of memory
ok_not_memory : (m : RootedMap) → ◌≡◌ {A = Result RootedMap MapRefusal} (Ok m) (Err MemoryOfMap) → ⊥
ok_not_memory m e = cc

err_not_memory : (r : MapRefusal) → (r ≡ MemoryOfMap → ⊥) → ◌≡◌ {A = Result RootedMap MapRefusal} (Err r) (Err MemoryOfMap) → ⊥
err_not_memory r n e = n (refusal_of e) where
  refusal_of : ◌≡◌ {A = Result RootedMap MapRefusal} (Err r) (Err MemoryOfMap) → r ≡ MemoryOfMap
  refusal_of h = cc

ok_not_err : (m : RootedMap) (r : MapRefusal) → ◌≡◌ {A = Result RootedMap MapRefusal} (Ok m) (Err r) → ⊥
ok_not_err m r e = cc

map_of_ok : (m n : RootedMap) → ◌≡◌ {A = Result RootedMap MapRefusal} (Ok m) (Ok n) → m ≡ n
map_of_ok m n e = cc

refusal_of_err : (r s : MapRefusal) → ◌≡◌ {A = Result RootedMap MapRefusal} (Err r) (Err s) → r ≡ s
refusal_of_err r s e = cc

-- bytes that are read once have one answer of a form
one_answer_of_form : {Read : Type 0} (form : List ℕ → Type 0) (reads : Read → Result RootedMap MapRefusal → Type 0) (bytes : List ℕ) → AreReadOnce form reads bytes
    → HasOneAnswer (IsAnswerOfForm form reads bytes)
one_answer_of_form {Read = Read} form reads bytes law (Ok a) (Ok b) f g n k =
    let alike = law.once a.1 b.1 (Ok a.0) (Ok b.0) f g (ok_not_memory a.0) (ok_not_memory b.0) in
    ap (λ (m : RootedMap). Ok (m, a.1)) (map_of_ok a.0 b.0 alike.same) ∙ ap (λ (read : Read). Ok (b.0, read)) alike.read
one_answer_of_form form reads bytes law (Ok a) (Err (Text line)) f g n k = absurd (valid_has_no_broken_line form bytes line (law.formed a.1 (Ok a.0) f) g)
one_answer_of_form form reads bytes law (Ok a) (Err (Map r)) f g n k =
    let alike = law.once a.1 g.0.0 (Ok a.0) (Err r) f g.0.1 (ok_not_memory a.0) (err_not_memory r g.1) in absurd (ok_not_err a.0 r alike.same)
one_answer_of_form form reads bytes law (Ok a) (Err Memory) f g n k = absurd (k refl)
one_answer_of_form form reads bytes law (Err (Text line)) (Ok b) f g n k = absurd (valid_has_no_broken_line form bytes line (law.formed b.1 (Ok b.0) g) f)
one_answer_of_form form reads bytes law (Err (Text line)) (Err (Text other)) f g n k = ap (λ (l : ℕ). Err (Text l)) (broken_line_is_unique form bytes line other f g)
one_answer_of_form form reads bytes law (Err (Text line)) (Err (Map r)) f g n k = absurd (valid_has_no_broken_line form bytes line (law.formed g.0.0 (Err r) g.0.1) f)
one_answer_of_form form reads bytes law (Err (Text line)) (Err Memory) f g n k = absurd (k refl)
one_answer_of_form form reads bytes law (Err (Map r)) (Ok b) f g n k =
    let alike = law.once b.1 f.0.0 (Ok b.0) (Err r) g f.0.1 (ok_not_memory b.0) (err_not_memory r f.1) in absurd (ok_not_err b.0 r alike.same)
one_answer_of_form form reads bytes law (Err (Map r)) (Err (Text line)) f g n k = absurd (valid_has_no_broken_line form bytes line (law.formed f.0.0 (Err r) f.0.1) g)
one_answer_of_form form reads bytes law (Err (Map r)) (Err (Map s)) f g n k =
    let alike = law.once f.0.0 g.0.0 (Err r) (Err s) f.0.1 g.0.1 (err_not_memory r f.1) (err_not_memory s g.1) in
    ap (λ (x : MapRefusal). Err (Map x)) (refusal_of_err r s alike.same)
one_answer_of_form form reads bytes law (Err (Map r)) (Err Memory) f g n k = absurd (k refl)
one_answer_of_form form reads bytes law (Err Memory) second f g n k = absurd (n refl)

-- bytes that begin with a map text
texts_are_read_once : (bytes : List ℕ) (limit : ℕ) → AreReadOnce BeginsWithMapText (λ after. AnswersText bytes limit after) bytes
texts_are_read_once bytes limit = record {
  formed = λ after answer a. record { lines = a.lines; are_lines = a.are_lines; rest = a.rest; spelled = a.spelled };
  once = λ after other first second a b n k.
      let alike = texts_alike a.lines b.lines a.rest b.rest a.are_lines b.are_lines (sym a.spelled ∙ b.spelled) in
      record {
        read = a.place ∙ ap (λ m. length (lines_text m)) alike.lines ∙ sym b.place;
        same = lines_alike b.lines limit first second (subst (λ m. IsLinesAnswer m limit first) alike.lines a.answered) b.answered n k;
      };
}

pub one_text_answer : HasOneMapTextAnswer
one_text_answer bytes limit = one_answer_of_form BeginsWithMapText (λ after. AnswersText bytes limit after) bytes (texts_are_read_once bytes limit)

-- what may follow a map text has one reading
tag : List ℕ
tag = codes "residue"

line_not_empty : (line rest : List ℕ) → [] ≡ line ++ newline ∷ rest → ⊥
line_not_empty [] rest e = cc
line_not_empty (x ∷ line) rest e = cc

residue_alike : (one other : Option (List ℕ)) (a b : List ℕ) → a ≡ b → IsResidue one a → IsResidue other b → one ≡ other
unfolding tag
residue_alike None None a b e f g = refl
residue_alike None (Some numbers) a b e f g = absurd (line_not_empty (list_line tag numbers) [] (sym f.spelled ∙ e ∙ g.spelled))
residue_alike (Some numbers) None a b e f g = absurd (line_not_empty (list_line tag numbers) [] (sym g.spelled ∙ sym e ∙ f.spelled))
residue_alike (Some numbers) (Some others) a b e f g =
    let alike = cut_alike (list_line tag numbers) (list_line tag others) [] [] (line_has_no_newline tag numbers (tag_parts tag refl) f.fit) (line_has_no_newline tag others (tag_parts tag refl) g.fit)
    (sym f.spelled ∙ e ∙ g.spelled) in
    let same : numbers ≡ others = spells_one_list tag (list_line tag others) numbers others refl
    (subst (λ l. SpellsList tag l numbers) alike.line (line_is_read_again tag numbers f.fit)) (line_is_read_again tag others g.fit) in
    ap (λ (l : List ℕ). Some l) same

-- bytes that are a map file
files_are_read_once : (bytes : List ℕ) (limit : ℕ) → AreReadOnce IsMapFile (λ residue. AnswersFile bytes limit residue) bytes
files_are_read_once bytes limit = record {
  formed = λ residue answer a. record { lines = a.lines; are_lines = a.are_lines; rest = a.rest; after = (residue, a.is_residue); spelled = a.spelled };
  once = λ residue other first second a b n k.
      let alike = texts_alike a.lines b.lines a.rest b.rest a.are_lines b.are_lines (sym a.spelled ∙ b.spelled) in
      record {
        read = residue_alike residue other a.rest b.rest alike.rest a.is_residue b.is_residue;
        same = lines_alike b.lines limit first second (subst (λ m. IsLinesAnswer m limit first) alike.lines a.answered) b.answered n k;
      };
}

pub one_file_answer : HasOneMapFileAnswer
one_file_answer bytes limit = one_answer_of_form IsMapFile (λ residue. AnswersFile bytes limit residue) bytes (files_are_read_once bytes limit)

numbers_of_some : (one other : List ℕ) → ◌≡◌ {A = Option (List ℕ)} (Some one) (Some other) → one ≡ other
numbers_of_some one other e = cc

-- bytes that are a sample file
samples_are_read_once : (bytes : List ℕ) (limit : ℕ) → AreReadOnce IsSampleFile (λ residue. AnswersFile bytes limit (Some residue)) bytes
samples_are_read_once bytes limit = record {
  formed = λ residue answer a. record { lines = a.lines; are_lines = a.are_lines; rest = a.rest; after = (residue, a.is_residue); spelled = a.spelled };
  once = λ residue other first second a b n k.
      let alike = (files_are_read_once bytes limit).once (Some residue) (Some other) first second a b n k in
      record { read = numbers_of_some residue other alike.read; same = alike.same };
}

pub one_sample_answer : HasOneSampleFileAnswer
one_sample_answer bytes limit = one_answer_of_form IsSampleFile (λ residue. AnswersFile bytes limit (Some residue)) bytes (samples_are_read_once bytes limit)
