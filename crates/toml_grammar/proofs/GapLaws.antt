-- What the grammar does not see.
use Rattle.std.proofs.Common.{◌≡◌, refl, sym, ◌∙◌, ap, ℕ, Bool, true, false, cond, ◌==◌, List, [], ◌∷◌, Option, Some, None, Ok}
use Rattle.std.proofs.lemmas.List.Sums.{fold-append}
use Rattle.std.specs.List.{fold}
use Rattle.toml_lexemes.specs.Bytes.{dot}
use Rattle.toml_grammar.specs.GapLaws.{GapsAreUnseen, KeyWordsAreJoined, sees_gap}
use Rattle.toml_grammar.specs.Bytes.{is_bare}
use Rattle.toml_grammar.specs.Grammar.{Reading, innermost, is_clear, is_line_end, sort_turn, turned}
use Rattle.toml_grammar.specs.Keys.{key_next, key_word, part_due}
use Rattle.toml_grammar.specs.Sorts.{Sort, open_array, close_array, open_table, close_table, comma, equals, line_end, comment, string, word}
use Rattle.toml_grammar.specs.Sorts.{text_end, sort_of}
use Rattle.toml_grammar.specs.declared.expected.Expected.TheVariants as want
use Rattle.toml_grammar.specs.declared.key.KeyPlace.{KeyPlace}
use Rattle.toml_grammar.specs.declared.key.KeyPlace.TheVariants as place
use Rattle.toml_grammar.specs.declared.next.Bracket.{Bracket}
use Rattle.toml_grammar.specs.declared.next.Next.{Next}
use Rattle.toml_grammar.specs.declared.next.Next.TheVariants.{Line, Header, Key, Closing, Value, Member, Entry, After, AfterDate}
use Rattle.toml_grammar.specs.declared.next.Owner.TheVariants as owner
use Rattle.toml_grammar.specs.declared.turn.LexemeTurn.{LexemeTurn}
use Rattle.toml_grammar.specs.declared.turn.LexemeTurn.TheVariants.{Stops}

-- ---- gaps

same_turn : (k : Sort) (n : Next) (b : Option Bracket) (g h s : List ℕ) → sees_gap n k ≡ false → sort_turn k n b g s ≡ sort_turn k n b h s
same_turn open_array Header b g h s e = absurd (cc)
same_turn open_array Line b g h s e = refl
same_turn open_array (Key o due) b g h s e = refl
same_turn open_array Closing b g h s e = refl
same_turn open_array Value b g h s e = refl
same_turn open_array Member b g h s e = refl
same_turn open_array Entry b g h s e = refl
same_turn open_array After b g h s e = refl
same_turn open_array AfterDate b g h s e = refl
same_turn close_array Closing b g h s e = absurd (cc)
same_turn close_array Line b g h s e = refl
same_turn close_array Header b g h s e = refl
same_turn close_array (Key owner.Value true) b g h s e = refl
same_turn close_array (Key owner.Value false) b g h s e = refl
same_turn close_array (Key owner.Table true) b g h s e = refl
same_turn close_array (Key owner.Table false) b g h s e = refl
same_turn close_array (Key owner.Tables true) b g h s e = refl
same_turn close_array (Key owner.Tables false) b g h s e = refl
same_turn close_array Value b g h s e = refl
same_turn close_array Member b g h s e = refl
same_turn close_array Entry b g h s e = refl
same_turn close_array After b g h s e = refl
same_turn close_array AfterDate b g h s e = refl
same_turn word AfterDate b g h s e = absurd (cc)
same_turn word Line b g h s e = refl
same_turn word Header b g h s e = refl
same_turn word (Key o due) b g h s e = refl
same_turn word Closing b g h s e = refl
same_turn word Value b g h s e = refl
same_turn word Member b g h s e = refl
same_turn word Entry b g h s e = refl
same_turn word After b g h s e = refl
same_turn open_table n b g h s e = refl
same_turn close_table n b g h s e = refl
same_turn comma n b g h s e = refl
same_turn equals n b g h s e = refl
same_turn line_end n b g h s e = refl
same_turn comment n b g h s e = refl
same_turn string n b g h s e = refl
same_turn text_end n b g h s e = refl

clear_step : (b : Bool) (bs : List Bracket) (x : LexemeTurn) (t : Reading) → turned bs (cond b x (Stops want.LineFeed)) ≡ Ok t
    → turned bs x ≡ Ok t
clear_step true bs x t h = h
clear_step false bs x t h = absurd (cc)

pub gaps_are_unseen : GapsAreUnseen
gaps_are_unseen r p g t unseen clear h =
    let k = sort_of p.lexeme in
    let b = innermost r.open_brackets in
    let taken : turned r.open_brackets (sort_turn k r.next b p.gap p.lexeme) ≡ Ok t =
    clear_step (is_clear p.gap (is_line_end k)) r.open_brackets (sort_turn k r.next b p.gap p.lexeme) t h in
    ap (λ (c : Bool). turned r.open_brackets (cond c (sort_turn k r.next b g p.lexeme) (Stops want.LineFeed))) clear
    ∙ ap (turned r.open_brackets) (same_turn k r.next b g p.gap p.lexeme unseen) ∙ taken

-- ---- keys

wrong_stays : (t : List ℕ) → fold key_next place.Wrong t ≡ place.Wrong
wrong_stays [] = refl
wrong_stays (x ∷ t) = wrong_stays t

-- after a part and inside one a word goes on alike
inside_goes_on : (b c : Bool) (t : List ℕ) (after : Bool) → part_due (fold key_next (cond b place.Due place.Wrong) t) ≡ Some after
    → part_due (fold key_next (cond b place.Due (cond c place.Inside place.Wrong)) t) ≡ Some after
inside_goes_on true c t after h = h
inside_goes_on false c t after h = let none : None ≡ Some after = sym (ap part_due (wrong_stays t)) ∙ h in absurd (cc)

goes_on : (p : KeyPlace) (between after : Bool) (t : List ℕ) → part_due p ≡ Some between
    → part_due (fold key_next (cond between place.Due place.After) t) ≡ Some after → part_due (fold key_next p t) ≡ Some after
goes_on place.Due true after t e h = h
goes_on place.Due false after t e h = absurd (cc)
goes_on place.After true after t e h = absurd (cc)
goes_on place.After false after t e h = h
goes_on place.Inside true after t e h = absurd (cc)
goes_on place.Inside false after [] e h = h
goes_on place.Inside false after (x ∷ t) e h = inside_goes_on (x == dot) (is_bare x) t after h
goes_on place.Wrong between after t e h = absurd (cc)

pub key_words_are_joined : KeyWordsAreJoined
unfolding key_word
key_words_are_joined due between after s t e h =
    ap part_due (fold-append key_next (cond due place.Due place.After) s t)
    ∙ goes_on (fold key_next (cond due place.Due place.After) s) between after t e h
