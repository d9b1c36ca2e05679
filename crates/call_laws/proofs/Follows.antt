-- An account follows the history of its calls: what the history says of a set is what the account keeps of it.
use Rattle.call_laws.proofs.Words.{rules, nat_tests, ◌≡◌, ◌≢◌, ℕ, ◌+◌, inl, inr, Bool, true, false, List, [], ◌∷◌, ◌++◌, length, take, drop, refl}
use Rattle.call_laws.proofs.Words.{sym, ap, ap₂, subst, ◌∙◌, arith, Option, Some, None, Ok, slice_set, if◌then◌else◌, option_map, option_map_or}
use Rattle.call_laws.proofs.Words.{eqb_tells, drop-drop, take-add, Occ, Book, Call, Reply, Kept, AllWithin, IsWithin, kept_after, new_kept, in_window}
use Rattle.call_laws.proofs.Words.{at, change, values_of, each_at, CallReply, OccAfter, is_ok, makes, placed_after, taken, taken_by, changed, set_now}
use Rattle.call_laws.proofs.Words.{holds_after, is_accum, is_clearing, is_zeroing, runs_now, runs_after, set_of_call, values_over, added, values_now}
use Rattle.call_laws.proofs.Words.{window, wrapped_sums}
use Rattle.call_type.specs.declared.call.Call.TheVariants as call
use Rattle.call_laws.proofs.Measured.{values_are}
use Rattle.call_laws.proofs.Histories.{added-changed, added-made, added-other, set_now-changed, set_now-made, set_now-other, runs_now-changed, runs_now-other, window-made, window-running, window-same, window-stays, window-zeroing, zeroes-changed, zeroes-other}
use Rattle.call_laws.proofs.Places.{at-change_same, at-put_none, at-put_other, at-put_same}
use Rattle.call_laws.proofs.Windows.{length-placed, placed-take, window-kept, window-more, window-stopped, window-zeroed}
use Rattle.call_laws.proofs.Replied.{IsQuiet, changes_other, changes_same, quiet_makes, said}
use Rattle.call_laws.proofs.Sums.{sums_more, value_addable, wrapped_zeros}

-- ---- what follows

-- what is kept of a set is what the history says
pub record SetFollows (book : Book) (stream : List Occ) (log : List CallReply) (past : List Occ) (k : ℕ) (s : Kept) : Type 0 where
  pub holds : s.set ≡ set_now book k log
  pub windowed : in_window s (placed_after None past) ≡ window stream k log
  pub valued : s.values ≡ wrapped_sums (length s.set.events) (added book stream k log)

-- the set runs
abbrev pub running : Option Kept → Bool
running place = option_map_or (λ s. s.running) place false

pub record Follows (book : Book) (stream : List Occ) (log : List CallReply) (past rest : List Occ) (sets : List (Option Kept)) : Type 0 where
  pub past_is : past ≡ take (taken log) stream
  pub rest_is : rest ≡ drop (taken log) stream
  pub within : AllWithin (length past) sets
  pub runs_is : (k : ℕ) → running (at sets k) ≡ runs_now k log
  pub each : (k : ℕ) (s : Kept) → at sets k ≡ Some s → SetFollows book stream log past k s

-- the values of the set are what the history says
pub values_follow : (book : Book) (stream : List Occ) (log : List CallReply) (past : List Occ) (k : ℕ) (s : Kept) → IsWithin (length past) s → SetFollows book stream log past k s
    → values_of book past s ≡ values_now book stream k log
values_follow book stream log past k s inside h = values_are book past s inside ∙ ap₂ (values_over book) h.holds h.windowed

-- ---- a call that changed the set

kept_holds : (book : Book) (past : List Occ) (c : Call) (s : Kept) → (kept_after book past c s).set ≡ holds_after book c s.set
kept_holds book past c s = grind (arith, nat_tests)

kept_runs : (book : Book) (past : List Occ) (c : Call) (s : Kept) → (kept_after book past c s).running ≡ runs_after c s.running
kept_runs book past c s = grind (arith, nat_tests)

kept_window : (book : Book) (past : List Occ) (c : Call) (k : ℕ) (s : Kept) (xs : List OccAfter) → set_of_call c ≡ Some k → length xs ≡ length past → IsWithin (length past) s
    → in_window (kept_after book past c s) xs ≡ (if is_zeroing c then [] else in_window s xs)
kept_window book past (call.Cleanup j) k s xs q same h = window-zeroed (length past) s xs same
kept_window book past (call.Add j (Ok e)) k s xs q same h = window-zeroed (length past) s xs same
kept_window book past (call.Remove j (Ok e)) k s xs q same h = window-zeroed (length past) s xs same
kept_window book past (call.SetDomain j bits) k s xs q same h = window-zeroed (length past) s xs same
kept_window book past (call.SetMultiplex j slice) k s xs q same h = window-zeroed (length past) s xs same
kept_window book past (call.Overflow j (Ok e) t) k s xs q same h = window-zeroed (length past) s xs same
kept_window book past (call.Start j) k s xs q same h = window-zeroed (length past) (record s { running = true }) xs same
kept_window book past (call.Stop j) k s xs q same h = window-stopped s xs (length past) same h.in_order h.past
kept_window book past (call.Accum j) k s xs q same h = window-zeroed (length past) s xs same
kept_window book past (call.Reset j) k s xs q same h = window-zeroed (length past) s xs same
kept_window book past (call.AssignComponent j comp) k s xs q same h = refl
kept_window book past c k s xs q same h = cc

kept_values : (book : Book) (stream : List Occ) (log : List CallReply) (past : List Occ) (c : Call) (k : ℕ) (s : Kept) → set_of_call c ≡ Some k → IsWithin (length past) s → SetFollows book stream log past k s
    → (kept_after book past c s).values
    ≡ wrapped_sums (length (holds_after book c s.set).events) (if is_clearing c then [] else (if is_accum c then values_now book stream k log ∷ [] else []) ++ added book stream k log)
kept_values book stream log past c k s q inside h = grind (arith, nat_tests, wrapped_zeros, sums_more, value_addable, values_follow)

-- what is kept of the set that a call changed
changed_set : (book : Book) (stream : List Occ) (log : List CallReply) (past : List Occ) (c : Call) (r : Reply) (k : ℕ) (s : Kept)
    → set_of_call c ≡ Some k → is_ok r.code ≡ true → IsQuiet r.body → IsWithin (length past) s → SetFollows book stream log past k s
    → SetFollows book stream (said c r ∷ log) past k (kept_after book past c s)
changed_set book stream log past c r k s q ok quiet inside h = search (rules, said, quiet_makes, changes_same, kept_holds, set_now-changed, kept_window, length-placed, zeroes-changed, kept_values, added-changed, window-zeroing, window-same)

-- what is kept of a set that a call did not change
other_set : (book : Book) (stream : List Occ) (log : List CallReply) (past : List Occ) (x : CallReply) (k : ℕ) (s : Kept)
    → makes k x ≡ false → changed k x ≡ false → taken_by x.reply.body ≡ 0 → SetFollows book stream log past k s → SetFollows book stream (x ∷ log) past k s
other_set book stream log past x k s m off none h = grind (arith, nat_tests, set_now-other, window-same, zeroes-other, added-other)

-- ---- all sets

-- a number is this one or another
by_number : (P : ℕ → Type 0) (j k : ℕ) → P k → (j ≢ k → P j) → P j
by_number P j k here other = elim (eqb_tells j k) [ inl e ↦ subst P (sym e.1) here | inr e ↦ other e.1 ]

-- a call that took nothing leaves what was taken
still : (x : CallReply) (log : List CallReply) → taken_by x.reply.body ≡ 0 → taken log ≡ taken (x ∷ log)
still x log none = omega (arith, none)

-- a call that changed nothing
pub idle_follows : (book : Book) (stream : List Occ) (log : List CallReply) (past rest : List Occ) (sets : List (Option Kept)) (x : CallReply)
    → ((k : ℕ) → makes k x ≡ false) → ((k : ℕ) → changed k x ≡ false) → taken_by x.reply.body ≡ 0
    → Follows book stream log past rest sets → Follows book stream (x ∷ log) past rest sets
idle_follows book stream log past rest sets x m off none h = record {
  past_is = h.past_is ∙ ap (λ n. take n stream) (still x log none);
  rest_is = h.rest_is ∙ ap (λ n. drop n stream) (still x log none);
  within = h.within;
  runs_is = λ k. h.runs_is k ∙ sym (runs_now-other k x log (off k));
  each = λ k s e. other_set book stream log past x k s (m k) (off k) none (h.each k s e);
}

-- a call that changed the set of a number
pub changed_follows : (book : Book) (stream : List Occ) (log : List CallReply) (past rest : List Occ) (sets : List (Option Kept)) (c : Call) (r : Reply) (k : ℕ) (s : Kept)
    → set_of_call c ≡ Some k → is_ok r.code ≡ true → IsQuiet r.body → at sets k ≡ Some s
    → AllWithin (length past) (change (kept_after book past c) sets k)
    → Follows book stream log past rest sets → Follows book stream (said c r ∷ log) past rest (change (kept_after book past c) sets k)
changed_follows book stream log past rest sets c r k s q ok quiet there inside h = record {
  past_is = h.past_is ∙ ap (λ n. take n stream) (still (said c r) log quiet.takes_none);
  rest_is = h.rest_is ∙ ap (λ n. drop n stream) (still (said c r) log quiet.takes_none);
  within = inside;
  runs_is = λ j. by_number (λ i. running (at (change (kept_after book past c) sets k) i) ≡ runs_now i (said c r ∷ log)) j k runs_here (λ apart. ap running (at-put_other sets k j _ apart) ∙ h.runs_is j ∙ sym (runs_now-other j (said c r) log (changes_other c r j k q apart)));
  each = λ j t e. by_number (λ i. at (change (kept_after book past c) sets k) i ≡ Some t → SetFollows book stream (said c r ∷ log) past i t) j k (set_here t) (λ apart f.
      other_set book stream log past (said c r) j t (quiet_makes c r j quiet) (changes_other c r j k q apart) quiet.takes_none (h.each j t (sym (at-put_other sets k j _ apart) ∙ f))) e;
} where
  here : at (change (kept_after book past c) sets k) k ≡ Some (kept_after book past c s)
  here = at-change_same (kept_after book past c) sets k ∙ ap (option_map (kept_after book past c)) there

  runs_here : running (at (change (kept_after book past c) sets k) k) ≡ runs_now k (said c r ∷ log)
  runs_here =
      ap running here ∙ kept_runs book past c s ∙ ap (runs_after c) (sym (ap running there) ∙ h.runs_is k)
      ∙ sym (runs_now-changed k (said c r) log (changes_same c r k q ok))

  set_here : (t : Kept) → at (change (kept_after book past c) sets k) k ≡ Some t → SetFollows book stream (said c r ∷ log) past k t
  set_here t e =
      let same : kept_after book past c s ≡ t = (let both : Some (kept_after book past c s) ≡ Some t = sym here ∙ e in cc) in
      subst (SetFollows book stream (said c r ∷ log) past k) same
      (changed_set book stream log past c r k s q ok quiet (each_at (IsWithin (length past)) sets k s h.within.each there) (h.each k s there))

-- a new set
new_set_follows : (book : Book) (stream : List Occ) (log : List CallReply) (past : List Occ) (x : CallReply) (k : ℕ) → makes k x ≡ true → SetFollows book stream (x ∷ log) past k new_kept
new_set_follows book stream log past x k m = grind (arith, nat_tests, set_now-made, window-made, added-made)

not_running : (o : Option Kept) → ((s : Kept) → o ≡ Some s → new_kept ≡ s) → running o ≡ false
not_running = grind (arith, nat_tests)

-- a call that made a set
pub made_follows : (book : Book) (stream : List Occ) (log : List CallReply) (past rest : List Occ) (sets : List (Option Kept)) (x : CallReply) (k : ℕ)
    → makes k x ≡ true → ((j : ℕ) → j ≢ k → makes j x ≡ false) → ((j : ℕ) → changed j x ≡ false) → taken_by x.reply.body ≡ 0 → at sets k ≡ None
    → AllWithin (length past) (slice_set sets k (Some new_kept))
    → Follows book stream log past rest sets → Follows book stream (x ∷ log) past rest (slice_set sets k (Some new_kept))
made_follows book stream log past rest sets x k m others off none empty inside h = record {
  past_is = h.past_is ∙ ap (λ n. take n stream) (still x log none);
  rest_is = h.rest_is ∙ ap (λ n. drop n stream) (still x log none);
  within = inside;
  runs_is = λ j. by_number (λ i. running (at (slice_set sets k (Some new_kept)) i) ≡ runs_now i (x ∷ log)) j k
      (not_running (at (slice_set sets k (Some new_kept)) k) (at-put_same sets k new_kept) ∙ sym (ap running empty) ∙ h.runs_is k ∙ sym (runs_now-other k x log (off k)))
      (λ apart. ap running (at-put_other sets k j (Some new_kept) apart) ∙ h.runs_is j ∙ sym (runs_now-other j x log (off j)));
  each = λ j t e. by_number (λ i. at (slice_set sets k (Some new_kept)) i ≡ Some t → SetFollows book stream (x ∷ log) past i t) j k
      (λ f. subst (SetFollows book stream (x ∷ log) past k) (at-put_same sets k new_kept t f) (new_set_follows book stream log past x k m))
      (λ apart f. other_set book stream log past x j t (others j apart) (off j) none (h.each j t (sym (at-put_other sets k j (Some new_kept) apart) ∙ f))) e;
}

-- a call that took a stopped set away
pub gone_follows : (book : Book) (stream : List Occ) (log : List CallReply) (past rest : List Occ) (sets : List (Option Kept)) (x : CallReply) (k : ℕ)
    → ((j : ℕ) → makes j x ≡ false) → ((j : ℕ) → changed j x ≡ false) → taken_by x.reply.body ≡ 0 → running (at sets k) ≡ false
    → AllWithin (length past) (slice_set sets k None)
    → Follows book stream log past rest sets → Follows book stream (x ∷ log) past rest (slice_set sets k None)
gone_follows book stream log past rest sets x k m off none stopped inside h = record {
  past_is = h.past_is ∙ ap (λ n. take n stream) (still x log none);
  rest_is = h.rest_is ∙ ap (λ n. drop n stream) (still x log none);
  within = inside;
  runs_is = λ j. by_number (λ i. running (at (slice_set sets k None) i) ≡ runs_now i (x ∷ log)) j k
      (ap running (at-put_none sets k) ∙ sym stopped ∙ h.runs_is k ∙ sym (runs_now-other k x log (off k)))
      (λ apart. ap running (at-put_other sets k j None apart) ∙ h.runs_is j ∙ sym (runs_now-other j x log (off j)));
  each = λ j t e. by_number (λ i. at (slice_set sets k None) i ≡ Some t → SetFollows book stream (x ∷ log) past i t) j k
      (λ f. let both : None ≡ Some t = sym (at-put_none sets k) ∙ f in cc)
      (λ apart f. other_set book stream log past x j t (m j) (off j) none (h.each j t (sym (at-put_other sets k j None apart) ∙ f))) e;
}

-- ---- runs

-- what is kept of a set over which a run took its next occurrences
ran_set : (book : Book) (stream : List Occ) (log : List CallReply) (past later : List Occ) (x : CallReply) (k : ℕ) (s : Kept)
    → makes k x ≡ false → changed k x ≡ false → past ≡ take (taken log) stream → later ≡ take (taken (x ∷ log)) stream
    → s.running ≡ runs_now k log → IsWithin (length past) s → SetFollows book stream log past k s → SetFollows book stream (x ∷ log) later k s
ran_set book stream log past later x k s m off old new on inside h = grind (arith, nat_tests, set_now-other, placed-take, added-other, length-placed, window-more, window-running, zeroes-other, window-kept, window-stays)

-- a run
pub ran_follows : (book : Book) (stream : List Occ) (log : List CallReply) (past rest : List Occ) (sets : List (Option Kept)) (x : CallReply)
    → ((j : ℕ) → makes j x ≡ false) → ((j : ℕ) → changed j x ≡ false)
    → AllWithin (length (past ++ take (taken_by x.reply.body) rest)) sets
    → Follows book stream log past rest sets → Follows book stream (x ∷ log) (past ++ take (taken_by x.reply.body) rest) (drop (taken_by x.reply.body) rest) sets
ran_follows book stream log past rest sets x m off inside h = record {
  past_is = later;
  rest_is = ap (drop (taken_by x.reply.body)) h.rest_is ∙ drop-drop (taken_by x.reply.body) (taken log) stream;
  within = inside;
  runs_is = λ j. h.runs_is j ∙ sym (runs_now-other j x log (off j));
  each = λ j s e. ran_set book stream log past (past ++ take (taken_by x.reply.body) rest) x j s (m j) (off j) h.past_is later (sym (ap running e) ∙ h.runs_is j) (each_at (IsWithin (length past)) sets j s h.within.each e) (h.each j s e);
} where
  later : past ++ take (taken_by x.reply.body) rest ≡ take (taken log + taken_by x.reply.body) stream
  later = ap₂ (λ (a b : List Occ). a ++ take (taken_by x.reply.body) b) h.past_is h.rest_is ∙ sym (take-add (taken log) (taken_by x.reply.body) stream)
