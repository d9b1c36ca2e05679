use Rattle.stream_reader.proofs.Words.{◌≡◌, ◌∙◌, ◌+◌, ◌*◌, ◌==◌, Some, get_or, sym, ap, arith, digit_or_256, mode_or_256}
use Rattle.stream_reader.proofs.LineHeads.{are-bytes, is-byte, is-mode}
use Rattle.stream_reader.proofs.common_line.read_head.Goals as goal

pub overflow_cast-result : goal.overflow_cast-result
overflow_cast-result c =
    let s = are-bytes c.byte_or_more-select.result c.byte_or_more-umask.result c.mode_or_256-mode.result c.if-select-umask-gt255.false in
    record { fits = omega (arith, s.first) }

pub overflow_cast-result-2 : goal.overflow_cast-result-2
overflow_cast-result-2 c =
    let s = are-bytes c.byte_or_more-select.result c.byte_or_more-umask.result c.mode_or_256-mode.result c.if-select-umask-gt255.false in
    record { fits = omega (arith, s.second) }

pub returns : goal.returns
returns c =
    let t = c.args.text.now in
    let s = are-bytes c.byte_or_more-select.result c.byte_or_more-umask.result c.mode_or_256-mode.result c.if-select-umask-gt255.false in
    let e1 : c.byte_or_more-select.result ≡ digit_or_256 (get_or t 1 0) * 16 + digit_or_256 (get_or t 2 0) = c.byte_or_more-select.ensures in
    let e2 : c.byte_or_more-umask.result ≡ digit_or_256 (get_or t 4 0) * 16 + digit_or_256 (get_or t 5 0) = c.byte_or_more-umask.ensures in
    let e3 : c.mode_or_256-mode.result ≡ mode_or_256 (get_or t 7 0) = c.mode_or_256-mode.ensures.value in
    let select = is-byte (get_or t 1 0) (get_or t 2 0) (omega (arith, e1, s.first)) in
    let umask = is-byte (get_or t 4 0) (get_or t 5 0) (omega (arith, e2, s.second)) in
    let m = is-mode (get_or t 7 0) (omega (arith, e3, s.third)) in
    record {
      select = select.value ∙ ap Some (sym e1);
      umask = umask.value ∙ ap Some (sym e2);
      kernel = m.value ∙ ap (λ x. Some (x == 1)) (sym e3);
      select_inner = select.inner;
      umask_inner = umask.inner;
      kernel_inner = m.inner;
      spaces = c.has_head_spaces.ensures c.if-not-has_head_spaces.false;
    }
