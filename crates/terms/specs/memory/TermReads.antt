-- What the code tells of words and terms at a place of the theory's text.
use Rattle.std.specs.Prelude.{Option, Some, None, ℕ, ◌+◌, ◌-◌, ◌≤◌, ◌<◌, ◌≡◌, List, [], ◌∷◌, Bool, cond, ◌&&◌, eqb, length, drop}
use Rattle.grammar.specs.Bytes.{Bytes, bytes, next}
use Rattle.grammar.specs.Outcome.{done, refused}
use Rattle.grammar.specs.Reading.{Reading, give, ◌>>=◌, ◌>>◌, word, read_number, separated}
use Rattle.grammar.specs.Problem.{Name}
use Rattle.logic.specs.Formula.{Term, element, variable, terms_of}
use Rattle.logic.specs.Reading.{read_variable, read_term}
use Rattle.logic.specs.Names.{term_known, terms_known, term_closed, terms_closed}
use Rattle.logic.specs.Limits.{term_variables, terms_variables}
use Rattle.text.specs.memory.Found.{Taken}
use Rattle.text.specs.declared.name.Name.{Name as Place}
use Rattle.text.specs.declared.read.Read.{Read}
use Rattle.table.specs.memory.Table.{name_at}
use Rattle.words.specs.memory.Words.{term_word, term_words}
use Rattle.terms.specs.memory.Lists.{up_to}
use Rattle.terms.specs.memory.Entries.{Setting, Memory, Entered}
use Rattle.terms.specs.declared.term.Terms.{Terms}

-- a name stands at a place, and its place is told
abbrev pub ToldName : Reading Name → Bytes → ℕ → Option (Read Place) → Type 0
ToldName reader text at (Some read) = Taken reader text at (name_at text read.value) read.next
ToldName reader text at None = reader (drop at text) ≡ refused 5

unfoldable pub read_element : Reading Term
read_element = do
  v ← read_number 5
  give (element v)

unfoldable pub read_variable_term : Reading Term
read_variable_term = do
  x ← read_variable
  give (variable x)

-- terms, at most so many, and a bracket behind them
unfoldable pub closed_up_to : ℕ → Reading (List Term)
closed_up_to most = do
  ts ← up_to most read_term
  word 5 (bytes ")")
  give ts

-- the terms of an atom, if it has any
unfoldable pub read_term_list : Reading (List Term)
read_term_list s = cond (eqb (next s) 40) (do _ ← word 5 (bytes "("); ts ← separated 44 read_term; word 5 (bytes ")"); give ts) (give []) s

-- what the code tells of terms
module _ (s : Setting) where
  -- a term is read, judged and entered
  pub record TermFound (reader : Reading Term) (at : ℕ) (old : Memory) (to next : ℕ) (named : Bool) (new : Memory) : Type 0 where
    pub term : Term
    pub is : reader (drop at s.text) ≡ done (term, drop next s.text)
    pub judged : named ≡ (term_known s.problem.domain term && term_closed s.bound term)
    pub after : at < next
    pub within : next ≤ length s.text
    pub entered : Entered s.text (term_variables term) (term_known s.problem.domain term) (λ ix. term_word ix term ∷ []) old to new

  abbrev pub ToldTerm : Reading Term → ℕ → Memory → ℕ → Option (Read Bool) → Memory → Type 0
  ToldTerm reader at old to (Some read) new = TermFound reader at old to read.next read.value new
  ToldTerm reader at old to None new = reader (drop at s.text) ≡ refused 5

  -- terms are counted, judged and entered
  pub record TermsTaken (items : List Term) (told : Terms) (old : Memory) (to : ℕ) (new : Memory) : Type 0 where
    pub counted : told.count ≡ length items
    pub judged : told.named ≡ (terms_known s.problem.domain (terms_of items) && terms_closed s.bound (terms_of items))
    pub entered : Entered s.text (terms_variables (terms_of items)) (terms_known s.problem.domain (terms_of items)) (λ ix. term_words ix (terms_of items)) old to new

  -- terms are read
  pub record TermsFound (reader : Reading (List Term)) (at : ℕ) (old : Memory) (to next : ℕ) (told : Terms) (new : Memory) : Type 0 where
    pub items : List Term
    pub is : reader (drop at s.text) ≡ done (items, drop next s.text)
    pub taken : TermsTaken items told old to new
    pub after : at + told.count + (told.count - 1) ≤ next
    pub within : next ≤ length s.text

  abbrev pub ToldTerms : Reading (List Term) → ℕ → Memory → ℕ → Option (Read Terms) → Memory → Type 0
  ToldTerms reader at old to (Some read) new = TermsFound reader at old to read.next read.value new
  ToldTerms reader at old to None new = reader (drop at s.text) ≡ refused 5
