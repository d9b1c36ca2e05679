-- What a run's reader did in place of `next`: it passed lines over, or gave an occurrence at once.
use Rattle.thread_session.proofs.Words.{◌≡◌, ◌≤◌, ◌∙◌, ℕ, List, Bool, true, ap, sym, subst, arith, Option, Some, None, IfSome, is_some, option_map, option_map_or}
use Rattle.thread_session.proofs.Words.{Occ, Ending, Tape, Note, Book, ReaderView, SourceView, GaveAll, coming, comes, CoreView, SessionView, FaultsKept, fault_count}
use Rattle.std.specs.Option.{option_and_then}
use Rattle.stream_reader.specs.Reader.{GaveNothing}
use Rattle.stream_reader.specs.declared.next.Next.TheVariants as next
use Rattle.thread_session.proofs.Runs.{Running}

-- lines were passed over
pub passed_over : {book : Book} {old : SessionView} {core : CoreView} {reader mid later : ReaderView} {before after : List Note} {k count : ℕ} → mid ≡ reader
    → coming later ≡ coming mid → ((e : Ending) (more : List ℕ) → comes later e more ≡ comes mid e more) → GaveNothing mid.start later.start → later.over ≡ mid.over → later.source ≡ mid.source
    → Running book old core reader before after k count → Running book old core later before after k count
passed_over {book} {old} {core} {reader} {mid} {later} {before} {after} {k} {count} is told says counts over source r = go (subst (λ (v : ReaderView). Running book old core v before after k count) (sym is) r)
  where
    go : Running book old core mid before after k count → Running book old core later before after k count
    go r = record {
      shape = r.shape;
      agrees = r.agrees;
      in_step = record {
        few = r.in_step.few;
        taken = λ on. r.in_step.taken (sym over ∙ on) ∙ sym counts.given;
        last = λ on. r.in_step.last (sym over ∙ on) ∙ sym counts.last;
      };
      faults = subst (λ (s : Option SourceView). FaultsKept (fault_count old.reader) (option_map (λ (x : SourceView). x.faults) s)) (sym source) r.faults;
      os = r.os;
      number = r.number;
      taking = record {
        stands = r.taking.stands;
        notes = r.taking.notes;
        told = λ c e. subst (GaveAll c r.os) (sym told) (r.taking.told c e);
      };
      counted = r.counted;
      came = λ c h. r.came c (record {
        tape = h.tape;
        told = subst (λ (s : Option SourceView). IfSome (option_and_then (λ (x : SourceView). x.tape) s) (λ (t : Tape). t ≡ h.tape)) source h.told;
        says = sym (says h.tape.ending h.tape.bytes) ∙ h.says;
      });
    }

-- an occurrence was given, and nothing was taken from the source
pub kept_source : (was now : Option SourceView) → now ≡ was → is_some now ≡ is_some was
kept_source was now e = ap (λ (s : Option SourceView). is_some s) e

pub same_faults : (was now : Option SourceView) → now ≡ was → option_map_or (λ (x : SourceView). x.faults) was 0 ≤ option_map_or (λ (x : SourceView). x.faults) now 0
same_faults was now e =
    let same : option_map_or (λ (x : SourceView). x.faults) now 0 ≡ option_map_or (λ (x : SourceView). x.faults) was 0 = ap (λ (s : Option SourceView). option_map_or (λ (x : SourceView). x.faults) s 0) e in
    omega (arith, same)

-- so the reader was not over
pub not_over : (over : Bool) (o : Occ) → (over ≡ true → ◌≡◌ {A = Option Occ} (Some o) None) → over ≡ true → next.Occ o ≡ next.End
not_over over o ended e = absurd (let no : ◌≡◌ {A = Option Occ} (Some o) None = ended e in cc)
