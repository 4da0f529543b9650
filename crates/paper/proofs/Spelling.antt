-- A file that holds a certificate is the one file that says it, byte for byte.
use mathlib.Core.Path.{◌≡◌, refl, sym, ap, ◌∙◌}
use mathlib.Core.Logic.{inl, inr}
use mathlib.Core.Bool.{Bool, true, false}
use mathlib.Core.List.Memᴰ
use mathlib.Core.List.{List, [], ◌∷◌, ◌++◌, map, append_assoc, append-nil, Memᴰ, drop_last}
use Prim.Native.Nat.{ℕ, zero, suc, ◌+◌}
use Prim.Native.String.{String}
use native.Mathlib.Omega.{arith}
use lib.Dec.{eqb}
use lib.ListN.{length, get_or}
use Rattle.theory.specs.Term.{Term}
use Rattle.theory.specs.Preorder.{Token, symbol, variable, preorder}
use Rattle.theory.proofs.Tests.{equal_iff}
use Rattle.paper.specs.Bytes.{comma, letter_x}
use Rattle.paper.specs.Checked
use Rattle.paper.specs.Checked.{Checked, fault, says}
use Rattle.paper.specs.Lines.{take_line, Said, checked_line}
use Rattle.paper.specs.Fields.{each, number, entries, token}
use Rattle.paper.specs.Certificate.{Certificate, Kind, Budget, Arities, States, Final, Trans, BadStates, BadFinal, BadTrans, Rules, Merge, row}
use Rattle.paper.specs.Tables.{numbers, numbers_of, single_number, number_list, arity_list, final_list, last_of, transition_of, from_numbers, transition, class_list}
use Rattle.paper.specs.Sides.{term, left_side, right_side}
use Rattle.paper.specs.Format.{Reading, refused, gave, Reader, go_on, ◌>>=◌, ◌>>◌, give, at_line, line_of, fixed, times, rule, end, certificate, holds, read_file}
use Rattle.paper.specs.Answer.{decimal, decimals, line_with}
use Rattle.paper.specs.Spelling.{token_text, tokens_text, text_of_all, fixed_text, transition_text, rule_text, file_of, transition_numbers}
use Rattle.paper.proofs.Smallest.{decided}
use Rattle.paper.proofs.Checked.{silent, parts, Says, said, passed, says_so}
use Rattle.paper.proofs.Lines.{take_exact, with_commas, entries_sound}
use Rattle.paper.proofs.Numbers.{number_exact}
use Rattle.paper.proofs.Admitted.{held}
use Rattle.paper.proofs.Preorder.{preorder_exact}

-- Each entry read is spelled by what it is read as.
pub each_spelled : {Y : Type 0} (f : List ℕ → Checked Y) (g : Y → List ℕ) → ((e : List ℕ) → Says (λ y. g y ≡ e) (f e)) → (es : List (List ℕ)) → Says (λ ys. map g ys ≡ es) (each f es)
unfolding each
each_spelled f g h [] = says_so _ [] refl
each_spelled f g h (e ∷ es) = said _ _ (h e) (λ y p. said _ _ (each_spelled f g h es) (λ ys ps. says_so _ (y ∷ ys) (ap₂ p ps)))
  where
    ap₂ : {a b : List ℕ} {as' bs : List (List ℕ)} → a ≡ b → as' ≡ bs → ◌≡◌ {A = List (List ℕ)} (a ∷ as') (b ∷ bs)
    ap₂ p q = cc

-- A text of entries that is theirs with commas between them: of none, of one, and of one before others.
commas_text : {Y : Type 0} (g : Y → List ℕ) (text : List Y → List ℕ) → text [] ≡ [] → ((y : Y) → text (y ∷ []) ≡ g y)
    → ((y z : Y) (ys : List Y) → text (y ∷ z ∷ ys) ≡ g y ++ (comma ∷ text (z ∷ ys))) → (ys : List Y) → with_commas (map g ys) ≡ text ys
unfolding with_commas
commas_text g text none one more [] = sym none
commas_text g text none one more (y ∷ []) = sym (one y)
commas_text g text none one more (y ∷ z ∷ ys) = ap (λ l. g y ++ (comma ∷ l)) (commas_text g text none one more (z ∷ ys)) ∙ sym (more y z ys)

pub commas_decimals : (ns : List ℕ) → with_commas (map decimal ns) ≡ decimals ns
unfolding decimals
commas_decimals = commas_text decimal decimals refl (λ n. refl) (λ n m ns. refl)

pub commas_tokens : (ts : List Token) → with_commas (map token_text ts) ≡ tokens_text ts
unfolding tokens_text
commas_tokens = commas_text token_text tokens_text refl (λ t. refl) (λ t u ts. refl)

pub entries_whole : (value : List ℕ) → with_commas (entries value) ≡ value
entries_whole value = let i = entries_sound value in ap with_commas i.are ∙ i.whole

pub numbers_spelled : (value : List ℕ) → Says (λ ns. decimals ns ≡ value) (numbers value)
unfolding numbers
numbers_spelled value ns e = sym (commas_decimals ns) ∙ (ap with_commas (each_spelled number decimal (λ e n d. ((number_exact e n).0 d).0) (entries value) ns e) ∙ entries_whole value)

pub numbers_of_spelled : (b : Bool) (value : List ℕ) → Says (λ ns. decimals ns ≡ value) (numbers_of b value)
unfolding numbers_of decimals
numbers_of_spelled false value = numbers_spelled value
numbers_of_spelled true [] = says_so _ [] refl
numbers_of_spelled true (b ∷ bs) = numbers_spelled (b ∷ bs)

-- What is so of a variable behind its letter, and of a symbol, by their numbers, is so of what an entry is read as.
pub token_cases : (P : Token → Type 0) (e : List ℕ) → ((bs : List ℕ) → letter_x ∷ bs ≡ e → (n : ℕ) → number bs ≡ says n → P (variable n))
    → ((n : ℕ) → number e ≡ says n → P (symbol n)) → Says P (token e)
unfolding token
token_cases P [] v s t e = absurd (silent e)
token_cases P (b ∷ bs) v s t e = elim (decided (eqb b letter_x)) [
  | inl h ↦ let same = (equal_iff b letter_x).0 h in said _ _ (v bs cc) (λ n p. says_so P (variable n) p) t (rw (h, token) at e)
  | inr h ↦ said _ _ s (λ n p. says_so P (symbol n) p) t (rw (h, token) at e)
]

pub token_spelled : (e : List ℕ) → Says (λ t. token_text t ≡ e) (token e)
unfolding token_text
token_spelled e =
    token_cases (λ t. token_text t ≡ e) e (λ bs front n d. ap (λ l. letter_x ∷ l) ((number_exact bs n).0 d).0 ∙ front) (λ n d. ((number_exact e n).0 d).0)

one_spelled : (kind : Kind) (value : List ℕ) → Says (λ n. decimal n ≡ value) (single_number kind value)
unfolding single_number decimals
one_spelled kind value = said _ _ (numbers_of_spelled (row kind).empty value) (λ ns s. passed 4 _ _ (λ l. passed 5 _ _ (λ h. says_so _ _ (single ns s l))))
  where
    single : (ns : List ℕ) → decimals ns ≡ value → eqb (length ns) 1 ≡ true → decimal (get_or ns 0 0) ≡ value
    single [] s l = absurd (omega (arith, (equal_iff 0 1).0 l))
    single (n ∷ []) s l = s
    single (n ∷ m ∷ ns) s l = absurd (omega (arith, (equal_iff (length (n ∷ m ∷ ns)) 1).0 l))

list_spelled : (kind : Kind) (value : List ℕ) → Says (λ ns. decimals ns ≡ value) (number_list kind value)
unfolding number_list
list_spelled kind value = said _ _ (numbers_of_spelled (row kind).empty value) (λ ns s. passed 5 _ _ (λ h. says_so _ ns s))

arities_spelled : (value : List ℕ) → Says (λ ns. decimals ns ≡ value) (arity_list value)
unfolding arity_list
arities_spelled value = said _ _ (list_spelled Arities value) (λ ns s. passed 6 _ _ (λ h. says_so _ ns s))

finals_spelled : (kind : Kind) (n : ℕ) (value : List ℕ) → Says (λ ns. decimals ns ≡ value) (final_list kind n value)
unfolding final_list
finals_spelled kind n value = said _ _ (list_spelled kind value) (λ ns s. passed 5 _ _ (λ h. passed 7 _ _ (λ a. says_so _ ns s)))

merge_spelled : (n : ℕ) (value : List ℕ) → Says (λ ns. decimals ns ≡ value) (class_list n value)
unfolding class_list
merge_spelled n value = said _ _ (list_spelled Merge value) (λ ns s. passed 6 _ _ (λ h. passed 11 _ _ (λ a. says_so _ ns s)))

pub last_back : (q : ℕ) (qs : List ℕ) → drop_last (q ∷ qs) ++ (last_of (q ∷ qs) ∷ []) ≡ q ∷ qs
unfolding last_of
last_back q [] = refl
last_back q (r ∷ qs) = ap (λ l. q ∷ l) (last_back r qs)

-- What holds of a list's elements and of one behind them.
pub either_last : {P : ℕ → Type 0} (qs : List ℕ) (q : ℕ) → ((p : ℕ) → Memᴰ p qs → P p) → P q → (p : ℕ) → Memᴰ p (qs ++ (q ∷ [])) → P p
either_last {P} qs q h g p m = elim (Memᴰ.append_cases qs m) [ inl i ↦ h p i | inr i ↦ let same = Memᴰ.eq_of_singleton i in rw same g ]

transition_spelled : (arities : List ℕ) (n : ℕ) (value : List ℕ) → Says (λ t. decimals (transition_numbers t) ≡ value) (transition arities n value)
unfolding transition transition_of from_numbers
transition_spelled arities n value = said _ _ (numbers_spelled value) go
  where
    good : (f : ℕ) (qs : List ℕ) → eqb (length qs) (get_or arities f 0 + 1) ≡ true → drop_last qs ++ (last_of qs ∷ []) ≡ qs
    good f [] e = absurd (omega (arith, (equal_iff 0 (get_or arities f 0 + 1)).0 e))
    good f (q ∷ qs) e = last_back q qs

    go : (ns : List ℕ) → decimals ns ≡ value → Says (λ t. decimals (transition_numbers t) ≡ value) (from_numbers arities n ns)
    go [] s t e = absurd (silent e)
    go (f ∷ qs) s t e = passed _ _ _ (λ h. passed _ _ _ (λ l. says_so (λ t. decimals (transition_numbers t) ≡ value) _ (ap (λ qs. decimals (f ∷ qs)) (good f qs l) ∙ s))) t e

term_spelled : (arities value : List ℕ) → Says (λ t. tokens_text (preorder t) ≡ value) (term arities value)
unfolding term
term_spelled arities value =
    said _ _ (each_spelled token token_text token_spelled (entries value))
    (λ ts s. passed 5 _ _ (λ h. passed 6 _ _ (λ l t e. ap tokens_text ((preorder_exact arities ts t).0 e).0 ∙ (sym (commas_tokens ts) ∙ (ap with_commas s ∙ entries_whole value)))))

left_spelled : (arities value : List ℕ) → Says (λ t. tokens_text (preorder t) ≡ value) (left_side arities value)
unfolding left_side
left_spelled arities value = said _ _ (term_spelled arities value) (λ l s. passed _ _ _ (λ h. says_so _ l s))

right_spelled : (arities : List ℕ) (l : Term ℕ) (value : List ℕ) → Says (λ t. tokens_text (preorder t) ≡ value) (right_side arities l value)
unfolding right_side
right_spelled arities l value = said _ _ (term_spelled arities value) (λ r s. passed _ _ _ (λ h. says_so _ r s))

-- What a reader gives fulfils P, and the bytes that it took are f's text of it.
abbrev Spells : {X : Type 0} → (X → Type 0) → (X → List ℕ) → Reader X → Type 0
Spells {X} P f r = (line : ℕ) (rest : List ℕ) (x : X) (line' : ℕ) (rest' : List ℕ) → r line rest ≡ gave x line' rest' → P x × (rest ≡ f x ++ rest')

-- The bytes that it took stand in Q to what it gives.
abbrev Takes : {Y : Type 0} → (Y → List ℕ → Type 0) → Reader Y → Type 0
Takes {Y} Q r = (line : ℕ) (rest : List ℕ) (y : Y) (line' : ℕ) (rest' : List ℕ) → r line rest ≡ gave y line' rest' → (t : List ℕ) × Q y t × (rest ≡ t ++ rest')

-- A reading that went on was a reading before.
pub steps : {X Y : Type 0} (r : Reading X) (k : X → Reader Y) {y : Y} {line : ℕ} {rest : List ℕ} → go_on r k ≡ gave y line rest
    → (x : X) × (n : ℕ) × (bs : List ℕ) × (r ≡ gave x n bs) × (k x n bs ≡ gave y line rest)
unfolding go_on
steps (refused number line) k e = let z : ◌≡◌ {A = ℕ} 0 1 = cc in absurd (omega arith)
steps (gave x n bs) k e = (x, n, bs, refl, e)

taken : {X Y : Type 0} {P : X → Type 0} (Q : Y → List ℕ → Type 0) (f : X → List ℕ) (r : Reader X) (k : X → Reader Y) → Spells P f r
    → ((x : X) → P x → Takes (λ y u. Q y (f x ++ u)) (k x)) → Takes Q (r >>= k)
unfolding ◌>>=◌
taken Q f r k h g line rest y line' rest' e =
    let (x, n, bs, d, i) = steps (r line rest) k e in
    let (p, s) = h line rest x n bs d in
    let (u, q, t) = g x p n bs y line' rest' i in
    (f x ++ u, q, s ∙ (ap (λ l. f x ++ l) t ∙ sym (append_assoc (f x) u rest')))

-- The same where the reader takes nothing.
nothing_taken : {X Y : Type 0} (Q : Y → List ℕ → Type 0) (r : Reader X) (k : Reader Y)
    → ((line : ℕ) (rest : List ℕ) (x : X) (line' : ℕ) (rest' : List ℕ) → r line rest ≡ gave x line' rest' → rest ≡ rest') → Takes Q k → Takes Q (r >> k)
unfolding ◌>>◌
nothing_taken Q r k h g line rest y line' rest' e =
    let (x, n, bs, d, i) = steps (r line rest) (λ x. k) e in
    let (u, q, t) = g n bs y line' rest' i in
    (u, q, h line rest x n bs d ∙ t)

takes_give : {Y : Type 0} (Q : Y → List ℕ → Type 0) (y : Y) → Q y [] → Takes Q (give y)
unfolding give
takes_give Q y q line rest x line' rest' e = let same : y ≡ x = cc in let bytes' : rest ≡ rest' = cc in ([], rw same at q, bytes')

-- What is taken as f's text is spelled.
takes_spells : {Y : Type 0} (P : Y → Type 0) (f : Y → List ℕ) (r : Reader Y) → Takes (λ y t. P y × (t ≡ f y)) r → Spells P f r
takes_spells P f r h line rest y line' rest' e = let (t, (p, q), s) = h line rest y line' rest' e in (p, s ∙ ap (λ l. l ++ rest') q)

on_line_rest : {X : Type 0} (j : Checked (Said X)) (line : ℕ) (x : X) (line' : ℕ) (rest' : List ℕ) → at_line line j ≡ gave x line' rest'
    → (s : Said X) × (j ≡ says s) × (s.what ≡ x) × (s.rest ≡ rest')
unfolding at_line
on_line_rest (fault n) line x line' rest' e = let z : ◌≡◌ {A = ℕ} 0 1 = cc in absurd (omega arith)
on_line_rest (says s) line x line' rest' e = (s, refl, cc, cc)

-- A line is its key, `=`, the text of what it says, and LF.
line_spells : {X : Type 0} (f : X → List ℕ) (judge : List ℕ → Checked X) → ((value : List ℕ) → Says (λ x. f x ≡ value) (judge value)) → (key : String)
    → Spells (λ x. Unit {0}) (λ x. line_with key (f x)) (line_of key judge)
unfolding line_of checked_line
line_spells f judge h key line rest x line' rest' e =
    let (s, d, p, q) = on_line_rest (checked_line key judge rest) line x line' rest' e in
    let (l, a, b) = parts (take_line key rest) _ d in
    let (y, c, g) = parts (judge l.what) _ b in
    let same : record { what = y; rest = l.rest } ≡ s = cc in
    let what : y ≡ x = ap (λ s. s.what) same ∙ p in
    let behind : l.rest ≡ rest' = ap (λ s. s.rest) same ∙ q in
    let text : f x ≡ l.what = ap f (sym what) ∙ h l.what y c in
    (tt, sym ((take_exact key rest l).0 a).0 ∙ rw (text, behind))

fixed_spells : {X : Type 0} (f : X → List ℕ) (kind : Kind) (judge : Kind → List ℕ → Checked X) → ((value : List ℕ) → Says (λ x. f x ≡ value) (judge kind value))
    → Spells (λ x. Unit {0}) (λ x. fixed_text kind (f x)) (fixed kind judge)
unfolding fixed fixed_text
fixed_spells f kind judge h = line_spells f (judge kind) h (row kind).key

times_spells : {X : Type 0} (f : X → List ℕ) (n : ℕ) (r : Reader X) → Spells (λ x. Unit {0}) f r → Spells (λ xs. length xs ≡ n) (text_of_all f) (times n r)
unfolding times text_of_all
times_spells f zero r h = takes_spells (λ xs. length xs ≡ 0) (text_of_all f) _ (takes_give _ [] (refl, refl))
times_spells f (suc n) r h =
    takes_spells (λ xs. length xs ≡ suc n) (text_of_all f) _
    (taken _ f r _ h (λ x u. taken _ (text_of_all f) (times n r) _ (times_spells f n r h) (λ xs l. takes_give _ (x ∷ xs) (ap suc l, ap (λ t. f x ++ t) (append-nil (text_of_all f xs))))))

transition_line_lem : (arities : List ℕ) (n : ℕ) (key : String) → Spells (λ t. Unit {0}) (transition_text key) (line_of key (transition arities n))
unfolding transition_text
transition_line_lem arities n key = line_spells (λ t. decimals (transition_numbers t)) (transition arities n) (transition_spelled arities n) key

-- A side's line.
abbrev side_text : String → Term ℕ → List ℕ
side_text key t = line_with key (tokens_text (preorder t))

rule_spells : (arities : List ℕ) → Spells (λ rule. Unit {0}) rule_text (rule arities)
unfolding rule rule_text
rule_spells arities =
    takes_spells (λ rule. Unit {0}) rule_text _
    (taken _ (side_text "l") _ _ (line_spells (λ l. tokens_text (preorder l)) _ (left_spelled arities) "l")
    (λ l u. taken _ (side_text "r") _ _ (line_spells (λ r. tokens_text (preorder r)) _ (right_spelled arities l) "r") (λ r v. takes_give _ _ (tt, ap (λ t. side_text "l" l ++ t) (append-nil _)))))

number_line_lem : (kind : Kind) → Spells (λ n. Unit {0}) (λ n. fixed_text kind (decimal n)) (fixed kind single_number)
number_line_lem kind = fixed_spells decimal kind single_number (one_spelled kind)

end_takes : (line : ℕ) (rest : List ℕ) (x : Unit {0}) (line' : ℕ) (rest' : List ℕ) → end line rest ≡ gave x line' rest' → (rest ≡ []) × (rest' ≡ [])
unfolding end
end_takes line [] x line' rest' e = (refl, cc)
end_takes line (b ∷ bs) x line' rest' e = let z : ◌≡◌ {A = ℕ} 0 1 = cc in absurd (omega arith)

-- The lines in their order are the file that says the certificate.
certificate_takes : Takes (λ c t. t ≡ file_of c) certificate
unfolding certificate file_of
certificate_takes =
    taken _ (λ n. fixed_text Budget (decimal n)) _ _ (number_line_lem Budget) (λ budget _.
    taken _ (λ ns. fixed_text Arities (decimals ns)) _ _ (fixed_spells decimals Arities _ arities_spelled) (λ arities _.
    taken _ (λ n. fixed_text States (decimal n)) _ _ (number_line_lem States) (λ n _.
    taken _ (λ ns. fixed_text Final (decimals ns)) _ _ (fixed_spells decimals Final _ (finals_spelled Final n)) (λ final _.
    taken _ (λ n. fixed_text Trans (decimal n)) _ _ (number_line_lem Trans) (λ count _.
    taken _ (text_of_all (transition_text "t")) _ _ (times_spells (transition_text "t") count _ (transition_line_lem arities n "t")) (λ ts lt.
    taken _ (λ n. fixed_text BadStates (decimal n)) _ _ (number_line_lem BadStates) (λ m _.
    taken _ (λ ns. fixed_text BadFinal (decimals ns)) _ _ (fixed_spells decimals BadFinal _ (finals_spelled BadFinal m)) (λ badfinal _.
    taken _ (λ n. fixed_text BadTrans (decimal n)) _ _ (number_line_lem BadTrans) (λ badcount _.
    taken _ (text_of_all (transition_text "u")) _ _ (times_spells (transition_text "u") badcount _ (transition_line_lem arities m "u")) (λ us lu.
    taken _ (λ n. fixed_text Rules (decimal n)) _ _ (number_line_lem Rules) (λ rulecount _.
    taken _ (text_of_all rule_text) _ _ (times_spells rule_text rulecount _ (rule_spells arities)) (λ rules lr.
    taken _ (λ ns. fixed_text Merge (decimals ns)) _ _ (fixed_spells decimals Merge _ (merge_spelled n)) (λ merge _.
    nothing_taken _ end _ (λ line rest x line' rest' e. let (a, b) = end_takes line rest x line' rest' e in a ∙ sym b) (takes_give _ _ (rw (← lt, ← lu, ← lr, append-nil))))))))))))))))

-- A reader that leaves nothing.
abbrev Ends : {Y : Type 0} → Reader Y → Type 0
Ends {Y} r = (line : ℕ) (rest : List ℕ) (y : Y) (line' : ℕ) (rest' : List ℕ) → r line rest ≡ gave y line' rest' → rest' ≡ []

ends : {X Y : Type 0} (r : Reader X) (k : X → Reader Y) → ((x : X) → Ends (k x)) → Ends (r >>= k)
unfolding ◌>>=◌
ends r k h line rest y line' rest' e = let (x, n, bs, d, i) = steps (r line rest) k e in h x n bs y line' rest' i

end_ends : {Y : Type 0} (y : Y) → Ends (end >> give y)
unfolding ◌>>◌ give
end_ends y line rest z line' rest' e =
    let (x, n, bs, d, i) = steps (end line rest) (λ x. give y) e in
    let same : bs ≡ rest' = cc in
    sym same ∙ (end_takes line rest x n bs d).1

certificate_ends : Ends certificate
unfolding certificate
certificate_ends =
    ends _ _ (λ a. ends _ _ (λ b. ends _ _ (λ c. ends _ _ (λ d. ends _ _ (λ e. ends _ _ (λ f. ends _ _ (λ g.
    ends _ _ (λ h. ends _ _ (λ i. ends _ _ (λ j. ends _ _ (λ k. ends _ _ (λ l. ends _ _ (λ m. end_ends _)))))))))))))

-- A file that holds a certificate is, byte for byte, the one file that says it.
pub spelled : (file : List ℕ) (c : Certificate) → read_file file ≡ holds c → file_of c ≡ file
spelled file c e =
    let (L, rest, g, short) = held file c e in
    let (t, q, s) = certificate_takes 1 file c L rest g in
    let none_left = certificate_ends 1 file c L rest g in
    sym q ∙ (sym (append-nil t) ∙ (ap (λ r. t ++ r) (sym none_left) ∙ sym s))

-- So two files that hold the same certificate are the same file.
pub one_spelling : (file other : List ℕ) (c : Certificate) → read_file file ≡ holds c → read_file other ≡ holds c → file ≡ other
one_spelling file other c e d = sym (spelled file c e) ∙ spelled other c d
