pub mod StepView
pub mod CertificateView
pub mod OpenView
