-- The words of a certificate are words of a text.
use Rattle.std.proofs.Common.{◌≡◌, ℕ, zero, suc, ◌<◌, Bool, true, false, if◌then◌else◌, ◌&&◌, List, [], ◌∷◌, ◌++◌, map, length, get_or, codes, decimal, refl, arith}
use Rattle.std.specs.List.{AllByRecursion, list_all}
use Rattle.fort_theory.specs.Signatures.{is_word_byte}
use Rattle.fort_tables.specs.Counts.{Count, Finite, Infinite}
use Rattle.fort_alike.specs.ListedClosures.{Which, Star, Conv, Why, Any, Kids, Rule, Pair}
use Rattle.fort_certificate_theory.specs.Certificates.{Step, Closure, Part, Merge, Counts, Value}
use Rattle.fort_certificate_theory.specs.CertificateForms.{Version, OfOne, OfSeveral, OfReduced, version_word, tells_index, verdict_word, which_word}
use Rattle.fort_certificate_theory.specs.CertificateText.{number_element, why_word, pair_element, count_element, step_elements, header_elements, IsSmall, IsSmallWhy, IsSmallPair, IsSmallCount, CanBeWritten}
use Rattle.fort_certificate_texts.proofs.TextWords.{IsWritten, written_number}
use Rattle.fort_certificate_texts.proofs.TextLines.{IsWrittenElement}

both_true : (a b : Bool) → (a && b) ≡ true → (a ≡ true) × (b ≡ true)
both_true true b h = (refl, h)
both_true false b h = absurd cc

word_bytes : (w : List ℕ) (k : ℕ) → list_all is_word_byte w ≡ true → k < length w → is_word_byte (get_or w k 0) ≡ true
word_bytes [] k h l = absurd (omega arith)
word_bytes (b ∷ w) zero h l = (both_true (is_word_byte b) (list_all is_word_byte w) h).0
word_bytes (b ∷ w) (suc k) h l = word_bytes w k (both_true (is_word_byte b) (list_all is_word_byte w) h).1 (omega arith)

written : (w : List ℕ) → 0 < length w → list_all is_word_byte w ≡ true → IsWritten w
written w l h = record { some = l; bytes = λ k m. word_bytes w k h m }

number_written : (n : ℕ) → IsSmall n → IsWritten (decimal n)
number_written n h = written_number n (omega arith)

which_written : (w : Which) → IsWritten (which_word w)
which_written Star = written (codes "star") (omega arith) refl
which_written Conv = written (codes "conv") (omega arith) refl

verdict_written : (v : Bool) → IsWritten (verdict_word v)
verdict_written true = written (codes "yes") (omega arith) refl
verdict_written false = written (codes "no") (omega arith) refl

version_written : (version : Version) → IsWritten (version_word version)
version_written OfOne = written (codes "1") (omega arith) refl
version_written OfSeveral = written (codes "2") (omega arith) refl
version_written OfReduced = written (codes "3") (omega arith) refl

why_written : (w : Why) → IsSmallWhy w → IsWritten (why_word w)
why_written Any h = written (codes "any") (omega arith) refl
why_written Kids h = written (codes "kids") (omega arith) refl
why_written (Rule k) h = number_written k h

pairs_written : (ps : List Pair) → AllByRecursion IsSmallPair ps → AllByRecursion IsWrittenElement (map pair_element ps)
pairs_written [] h = tt
pairs_written (p ∷ ps) h = ((number_written p.p h.0.0, (number_written p.q h.0.1, (why_written p.why h.0.2, tt))), pairs_written ps h.1)

numbers_written : (ns : List ℕ) → AllByRecursion IsSmall ns → AllByRecursion IsWrittenElement (map number_element ns)
numbers_written [] h = tt
numbers_written (n ∷ ns) h = (number_written n h.0, numbers_written ns h.1)

counts_written : (cs : List Count) → AllByRecursion IsSmallCount cs → AllByRecursion IsWrittenElement (map count_element cs)
counts_written [] h = tt
counts_written (Finite n ∷ cs) h = ((written (codes "fin") (omega arith) refl, (number_written n h.0, tt)), counts_written cs h.1)
counts_written (Infinite n ∷ cs) h = ((written (codes "inf") (omega arith) refl, (number_written n h.0, tt)), counts_written cs h.1)

closure_written : (told : Bool) (index : ℕ) (ps : List Pair) → IsSmall index → AllByRecursion IsSmallPair ps
    → AllByRecursion IsWrittenElement ((if told then (number_element index ∷ []) else []) ++ map pair_element ps)
closure_written false index ps h small = pairs_written ps small
closure_written true index ps h small = (number_written index h, pairs_written ps small)

pub step_written : (version : Version) (s : Step) → CanBeWritten version s → AllByRecursion IsWrittenElement (step_elements version s)
step_written version (Closure w i ps) h = (written (codes "closure") (omega arith) refl, (which_written w, closure_written (tells_index version) i ps h.0.0 h.1))
step_written version (Part k ns) h = (written (codes "part") (omega arith) refl, (number_written k h.0, numbers_written ns h.1))
step_written version (Merge k ns) h = (written (codes "merge") (omega arith) refl, (number_written k h.1, numbers_written ns h.2))
step_written version (Counts k cs) h = (written (codes "counts") (omega arith) refl, (number_written k h.0, counts_written cs h.1))
step_written version (Value k v) h = (written (codes "value") (omega arith) refl, (number_written k h, (verdict_written v, tt)))

pub header_written : (version : Version) (v : Bool) → AllByRecursion IsWrittenElement (header_elements version v)
header_written version v = (written (codes "certificate") (omega arith) refl, (version_written version, (verdict_written v, tt)))
