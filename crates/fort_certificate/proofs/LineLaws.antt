-- How a line grows, element by element.
use Rattle.std.proofs.Common.{◌≡◌, ℕ, ◌+◌, ◌<◌, Bool, true, false, if◌then◌else◌, List, [], ◌∷◌, ◌++◌, map, length, take, get_or, slice_get, Option, Some, codes, decimal, refl, ap, sym, ◌∙◌, arith, append_assoc, append-nil}
use Rattle.std.proofs.lemmas.List.{map_more, take_more, length-map, length-take-le}
use Rattle.std.proofs.lemmas.Option.{slice_get_within, get_or_from_slice_get}
use Rattle.fort_tables.specs.Entries.{Entry}
use Rattle.fort_alike.specs.ListedClosures.{Which}
use Rattle.fort_certificate_theory.specs.Certificates.{Step, Closure, Part, Merge, Counts}
use Rattle.fort_certificate_theory.specs.CertificateForms.{Version, tells_index, which_word}
use Rattle.fort_certificate_theory.specs.CertificateText.{Element, spaced, in_parentheses, element_text, number_element, pair_element, count_element, index_elements, line_of, step_elements, steps_text}
use Rattle.fort_findings.specs.declared.closure.ClosureEntry.{ClosureEntry}
use Rattle.fort_findings.specs.declared.count.Count.{Count}
use Rattle.fort_steps.specs.declared.step.Step as step
use Rattle.fort_findings.specs.FindingView.{as_pair, as_count}
use Rattle.fort_steps.specs.StepView.{as_step}
use Rattle.fort_certificate_theory.specs.OpenCertificates.{Claim, Found, Empty}
use Rattle.fort_certificate_theory.specs.OpenForms.{claim_word, step_version}
use Rattle.fort_certificate_theory.specs.OpenText.{symbol_word, node_elements, open_header_elements, nodes_text, open_text}
use Rattle.fort_certificate.specs.Lines.{tails, gap}

spaced_tails : (w : List ℕ) (ws : List (List ℕ)) → spaced (w ∷ ws) ≡ w ++ tails ws
spaced_tails w [] = sym (append-nil w)
spaced_tails w (v ∷ ws) = ap (λ xs. w ++ 32 ∷ xs) (spaced_tails v ws)

tails_push : (ws : List (List ℕ)) (w : List ℕ) → tails (ws ++ w ∷ []) ≡ tails ws ++ 32 ∷ w
tails_push [] w = ap (λ xs. 32 ∷ xs) (append-nil w)
tails_push (v ∷ ws) w =
    ap (λ xs. 32 ∷ v ++ xs) (tails_push ws w) ∙ ap (λ xs. 32 ∷ xs) (sym (append_assoc v (tails ws) (32 ∷ w)))

tails_append : (vs ws : List (List ℕ)) → tails (vs ++ ws) ≡ tails vs ++ tails ws
tails_append [] ws = refl
tails_append (v ∷ vs) ws =
    ap (λ xs. 32 ∷ v ++ xs) (tails_append vs ws) ∙ ap (λ xs. 32 ∷ xs) (sym (append_assoc v (tails vs) (tails ws)))

-- one more of a list
pub tails_more : {A : Type 0} (old : List ℕ) (f : A → List ℕ) (xs : List A) (i : ℕ) (d : A) → i < length xs
    → (old ++ tails (map f (take i xs))) ++ 32 ∷ f (get_or xs i d) ≡ old ++ tails (map f (take (i + 1) xs))
tails_more old f xs i d l =
    append_assoc old (tails (map f (take i xs))) (32 ∷ f (get_or xs i d))
    ∙ ap (λ ys. old ++ ys) (sym (tails_push (map f (take i xs)) (f (get_or xs i d))) ∙ ap tails (sym (map_more f xs i d l)))

-- a line of a head and further texts
line_is : (old w : List ℕ) (ws : List (List ℕ)) → ((old ++ 40 ∷ w) ++ tails ws) ++ (41 ∷ 10 ∷ []) ≡ old ++ (in_parentheses (w ∷ ws) ++ 10 ∷ [])
line_is old w ws =
    append_assoc (old ++ 40 ∷ w) (tails ws) (41 ∷ 10 ∷ [])
    ∙ (append_assoc old (40 ∷ w) (tails ws ++ (41 ∷ 10 ∷ []))
    ∙ ap (λ xs. old ++ 40 ∷ xs)
    (sym (append_assoc w (tails ws) (41 ∷ 10 ∷ []))
    ∙ (ap (λ xs. xs ++ (41 ∷ 10 ∷ [])) (sym (spaced_tails w ws))
    ∙ sym (append_assoc (spaced (w ∷ ws)) (41 ∷ []) (10 ∷ [])))))

-- a head, one word, and further texts
pub one_line : (old w v : List ℕ) (ws : List (List ℕ))
    → (((old ++ 40 ∷ w) ++ (32 ∷ v)) ++ tails ws) ++ (41 ∷ 10 ∷ []) ≡ old ++ (in_parentheses (w ∷ v ∷ ws) ++ 10 ∷ [])
one_line old w v ws =
    ap (λ xs. xs ++ (41 ∷ 10 ∷ [])) (append_assoc (old ++ 40 ∷ w) (32 ∷ v) (tails ws)) ∙ line_is old w (v ∷ ws)

-- a head, one word, and two lists of texts
two_lists : (old w v : List ℕ) (us ws : List (List ℕ))
    → ((((old ++ 40 ∷ w) ++ (32 ∷ v)) ++ tails us) ++ tails ws) ++ (41 ∷ 10 ∷ []) ≡ old ++ (in_parentheses (w ∷ v ∷ (us ++ ws)) ++ 10 ∷ [])
two_lists old w v us ws =
    ap (λ xs. xs ++ (41 ∷ 10 ∷ []))
    (append_assoc ((old ++ 40 ∷ w) ++ (32 ∷ v)) (tails us) (tails ws) ∙ ap (λ xs. ((old ++ 40 ∷ w) ++ (32 ∷ v)) ++ xs) (sym (tails_append us ws)))
    ∙ one_line old w v (us ++ ws)

-- the texts of the elements of a list
numbers_text : (ns : List ℕ) → map element_text (map number_element ns) ≡ map decimal ns
numbers_text [] = refl
numbers_text (n ∷ ns) = ap (λ ws. decimal n ∷ ws) (numbers_text ns)

counts_text : (cs : List Count) → map element_text (map count_element (map as_count cs)) ≡ map (λ n. element_text (count_element (as_count n))) cs
counts_text [] = refl
counts_text (c ∷ cs) = ap (λ ws. element_text (count_element (as_count c)) ∷ ws) (counts_text cs)

pairs_text : (es : List ClosureEntry) → map element_text (map pair_element (map as_pair es)) ≡ map (λ e. element_text (pair_element (as_pair e))) es
pairs_text [] = refl
pairs_text (e ∷ es) = ap (λ ws. element_text (pair_element (as_pair e)) ∷ ws) (pairs_text es)

-- the line of a step
pub part_line : (old : List ℕ) (version : Version) (k : ℕ) (ns : List ℕ)
    → (((old ++ codes "(part") ++ (32 ∷ decimal k)) ++ tails (map decimal ns)) ++ (41 ∷ 10 ∷ []) ≡ old ++ line_of (step_elements version (Part k ns))
part_line old version k ns =
    one_line old (codes "part") (decimal k) (map decimal ns)
    ∙ ap (λ ws. old ++ (in_parentheses (codes "part" ∷ decimal k ∷ ws) ++ 10 ∷ [])) (sym (numbers_text ns))

pub merge_line : (old : List ℕ) (version : Version) (k : ℕ) (ns : List ℕ)
    → (((old ++ codes "(merge") ++ (32 ∷ decimal k)) ++ tails (map decimal ns)) ++ (41 ∷ 10 ∷ []) ≡ old ++ line_of (step_elements version (Merge k ns))
merge_line old version k ns =
    one_line old (codes "merge") (decimal k) (map decimal ns)
    ∙ ap (λ ws. old ++ (in_parentheses (codes "merge" ∷ decimal k ∷ ws) ++ 10 ∷ [])) (sym (numbers_text ns))

pub counts_line : (old : List ℕ) (version : Version) (k : ℕ) (cs : List Count)
    → (((old ++ codes "(counts") ++ (32 ∷ decimal k)) ++ tails (map (λ n. element_text (count_element (as_count n))) cs)) ++ (41 ∷ 10 ∷ [])
    ≡ old ++ line_of (step_elements version (Counts k (map as_count cs)))
counts_line old version k cs =
    one_line old (codes "counts") (decimal k) (map (λ n. element_text (count_element (as_count n))) cs)
    ∙ ap (λ ws. old ++ (in_parentheses (codes "counts" ∷ decimal k ∷ ws) ++ 10 ∷ [])) (sym (counts_text cs))

abbrev told_index : Bool → ℕ → List Element
told_index told i = if told then (number_element i ∷ []) else []

closure_elements : (told : Bool) (i : ℕ) (es : List ClosureEntry)
    → map element_text (told_index told i) ++ map (λ e. element_text (pair_element (as_pair e))) es
    ≡ map element_text (told_index told i ++ map pair_element (map as_pair es))
closure_elements false i es = sym (pairs_text es)
closure_elements true i es = ap (λ ws. decimal i ∷ ws) (sym (pairs_text es))

pub closure_line : (old : List ℕ) (version : Version) (w : Which) (i : ℕ) (es : List ClosureEntry)
    → ((((old ++ codes "(closure") ++ (32 ∷ which_word w)) ++ tails (map element_text (index_elements version i)))
    ++ tails (map (λ e. element_text (pair_element (as_pair e))) es)) ++ (41 ∷ 10 ∷ [])
    ≡ old ++ line_of (step_elements version (Closure w i (map as_pair es)))
closure_line old version w i es =
    two_lists old (codes "closure") (which_word w) (map element_text (index_elements version i)) (map (λ e. element_text (pair_element (as_pair e))) es)
    ∙ ap (λ ws. old ++ (in_parentheses (codes "closure" ∷ which_word w ∷ ws) ++ 10 ∷ [])) (closure_elements (tells_index version) i es)

steps_push : (version : Version) (ss : List Step) (s : Step) → steps_text version (ss ++ s ∷ []) ≡ steps_text version ss ++ line_of (step_elements version s)
steps_push version [] s = append-nil (line_of (step_elements version s))
steps_push version (r ∷ ss) s =
    ap (λ xs. line_of (step_elements version r) ++ xs) (steps_push version ss s)
    ∙ sym (append_assoc (line_of (step_elements version r)) (steps_text version ss) (line_of (step_elements version s)))

-- one more step
pub steps_more : (old : List ℕ) (version : Version) (ss : List step.Step) (i : ℕ) (s : step.Step) → i < length ss → s ≡ get_or ss i s
    → (old ++ steps_text version (map as_step (take i ss))) ++ line_of (step_elements version (as_step s))
    ≡ old ++ steps_text version (map as_step (take (i + 1) ss))
steps_more old version ss i s l e =
    append_assoc old (steps_text version (map as_step (take i ss))) (line_of (step_elements version (as_step s)))
    ∙ ap (λ xs. old ++ xs)
    (sym (steps_push version (map as_step (take i ss)) (as_step s))
    ∙ ap (steps_text version) (ap (λ t. map as_step (take i ss) ++ as_step t ∷ []) e ∙ sym (map_more as_step ss i s l)))

-- words with single blanks between them
pub spaced_push : (ws : List (List ℕ)) (w : List ℕ) → spaced (ws ++ w ∷ []) ≡ spaced ws ++ (gap (length ws) ++ w)
spaced_push [] w = refl
spaced_push (v ∷ []) w = refl
spaced_push (v ∷ u ∷ ws) w =
    ap (λ xs. v ++ 32 ∷ xs) (spaced_push (u ∷ ws) w) ∙ sym (append_assoc v (32 ∷ spaced (u ∷ ws)) (32 ∷ w))

pub symbols_more : (old : List ℕ) (symbol : List (Option ℕ)) (i : ℕ) (d x : Option ℕ) → i < length symbol → get_or symbol i d ≡ x
    → ((old ++ spaced (map symbol_word (take i symbol))) ++ gap i) ++ symbol_word x ≡ old ++ spaced (map symbol_word (take (i + 1) symbol))
symbols_more old symbol i d x l e =
    let ws = map symbol_word (take i symbol) in
    let long : length ws ≡ i = omega (arith, length-map (take i symbol) symbol_word, length-take-le i symbol (omega arith)) in
    append_assoc (old ++ spaced ws) (gap i) (symbol_word x)
    ∙ (append_assoc old (spaced ws) (gap i ++ symbol_word x)
    ∙ ap (λ xs. old ++ xs)
    (ap (λ n. spaced ws ++ (gap n ++ symbol_word x)) (sym long)
    ∙ (sym (spaced_push ws (symbol_word x))
    ∙ ap spaced (ap (λ y. ws ++ symbol_word y ∷ []) (sym e) ∙ sym (map_more symbol_word symbol i d l)))))

-- the line of a node
pub node_line : (old : List ℕ) (e : Entry)
    → ((((old ++ codes "(node (") ++ spaced (map symbol_word e.symbol)) ++ 41 ∷ []) ++ tails (map decimal e.kids)) ++ (41 ∷ 10 ∷ [])
    ≡ old ++ line_of (node_elements e)
node_line old e =
    let words = spaced (map symbol_word e.symbol) in
    let group = in_parentheses (map symbol_word e.symbol) in
    ap (λ xs. (xs ++ tails (map decimal e.kids)) ++ (41 ∷ 10 ∷ []))
    (append_assoc (old ++ codes "(node (") words (41 ∷ [])
    ∙ (append_assoc old (codes "(node (") (words ++ 41 ∷ []) ∙ sym (append_assoc old (codes "(node") (32 ∷ group))))
    ∙ (one_line old (codes "node") group (map decimal e.kids)
    ∙ ap (λ ws. old ++ (in_parentheses (codes "node" ∷ group ∷ ws) ++ 10 ∷ [])) (sym (numbers_text e.kids)))

nodes_push : (ns : List Entry) (n : Entry) → nodes_text (ns ++ n ∷ []) ≡ nodes_text ns ++ line_of (node_elements n)
nodes_push [] n = append-nil (line_of (node_elements n))
nodes_push (m ∷ ns) n =
    ap (λ xs. line_of (node_elements m) ++ xs) (nodes_push ns n)
    ∙ sym (append_assoc (line_of (node_elements m)) (nodes_text ns) (line_of (node_elements n)))

-- one more node
pub nodes_more : (old : List ℕ) (ns : List Entry) (i : ℕ) (n : Entry) → slice_get ns i ≡ Some n
    → (old ++ nodes_text (take i ns)) ++ line_of (node_elements n) ≡ old ++ nodes_text (take (i + 1) ns)
nodes_more old ns i n here =
    append_assoc old (nodes_text (take i ns)) (line_of (node_elements n))
    ∙ ap (λ xs. old ++ xs)
    (sym (nodes_push (take i ns) n)
    ∙ ap nodes_text
    (ap (λ m. take i ns ++ m ∷ []) (sym (get_or_from_slice_get ns i n n here)) ∙ sym (take_more ns i n (slice_get_within ns i n here))))

pub open_header_line : (claim : Claim) → (codes "(certificate 4 " ++ claim_word claim) ++ (41 ∷ 10 ∷ []) ≡ line_of (open_header_elements claim)
open_header_line Found = refl
open_header_line Empty = refl

-- nodes behind the steps
pub with_nodes : (claim : Claim) (ss : List Step) (ns : List Entry) → open_text claim ss [] ++ nodes_text ns ≡ open_text claim ss ns
with_nodes claim ss ns =
    let header = line_of (open_header_elements claim) in
    let steps = steps_text step_version ss in
    append_assoc header (steps ++ []) (nodes_text ns) ∙ ap (λ xs. header ++ (xs ++ nodes_text ns)) (append-nil steps)
