-- Sample files: what breaks a map file, and a residue line that is missing.
use Rattle.std.proofs.Common.{◌≡◌, ℕ, ◌+◌, List, [], ◌++◌, length, drop, refl, sym, ap, ◌∙◌, subst, ◌⊎◌, inl, inr, arith}
use Rattle.std.specs.Prelude.{Option, Some, None, codes}
use Rattle.std.proofs.lemmas.List.{append-nil}
use Rattle.std.proofs.lemmas.List.Elements.{All-nil}
use Rattle.pm_text.specs.Broken.{IsBrokenLine, IsOneLineForm}
use Rattle.pm_text.proofs.ReaderLemmas.{one_line_missing}
use Rattle.pm_lists.specs.ListLine.{list_line}
use Rattle.pm_lists.proofs.SpellingLemmas.{line_has_no_newline, tag_parts}
use Rattle.pm_mapfile.specs.MapFile.{MapLines, AreMapLines, lines_text, IsResidue, residue_text, IsResidueLine, IsMapFile, IsSampleFile}
use Rattle.pm_mapfile.specs.steps.Lines.{IsReadMap}
use Rattle.pm_lists.proofs.NumberLemmas.{Fits64}
use Rattle.pm_mapfile.proofs.FormLemmas.{GoesOnTo, broken_in_longer, whole_map_text}
use Rattle.pm_mapfile.proofs.ResidueLemmas.{after_broken}

-- the residue line without numbers
no_numbers : IsResidueLine (residue_text (Some []))
no_numbers = ([], record { fit = record { each = All-nil Fits64 }; spelled = refl })

residue_line_form : IsOneLineForm IsResidueLine
residue_line_form = record {
  one_line = λ file is. record {
    text = list_line (codes "residue") is.0;
    no_newline = line_has_no_newline (codes "residue") is.0 (tag_parts (codes "residue") refl) is.1.fit;
    whole = is.1.spelled;
  };
}

-- a map file has its residue line, or goes on with one
sample_or_longer : (file : List ℕ) (lines : MapLines) (rest : List ℕ) (residue : Option (List ℕ)) → AreMapLines lines → IsResidue residue rest → file ≡ lines_text lines ++ rest → IsSampleFile file ⊎ GoesOnTo IsSampleFile file
sample_or_longer file lines rest None are is spelled =
    let whole : file ≡ lines_text lines = spelled ∙ ap (λ l. lines_text lines ++ l) is.spelled ∙ append-nil (lines_text lines) in
    inr (subst (GoesOnTo IsSampleFile) (sym whole) (record {
      count = length lines.vertices + 2;
      whole = whole_map_text lines are;
      tail = residue_text (Some []);
      is_valid = record { lines = lines; are_lines = are; rest = residue_text (Some []); after = no_numbers; spelled = refl };
    }))
sample_or_longer file lines rest (Some numbers) are is spelled = inl (record { lines = lines; are_lines = are; rest = rest; after = (numbers, is); spelled = spelled })

-- what breaks bytes as a map file breaks them as a sample file
pub sample_broken : (bytes : List ℕ) (line : ℕ) → IsBrokenLine IsMapFile bytes line → IsBrokenLine IsSampleFile bytes line
sample_broken bytes line b =
    broken_in_longer IsSampleFile IsMapFile bytes line
    (λ file f. record { lines = f.lines; are_lines = f.are_lines; rest = f.rest; after = (Some f.after.0, f.after.1); spelled = f.spelled })
    (λ file f. sample_or_longer file f.lines f.rest f.after.0 f.are_lines f.after.1 f.spelled) b

-- nothing stands after the map text
pub residue_missing : (edges root after line : ℕ) (bytes darts sizes : List ℕ) → IsReadMap bytes edges root darts sizes after → drop after bytes ≡ [] → line ≡ length sizes + 3
    → IsBrokenLine IsSampleFile bytes line
residue_missing edges root after line bytes darts sizes r none count =
    after_broken IsResidueLine edges root after line 1 bytes darts sizes r (omega arith)
    (subst (λ l. IsBrokenLine IsResidueLine l 1) (sym none) (one_line_missing IsResidueLine (residue_text (Some [])) residue_line_form no_numbers)) (omega (arith, count))
